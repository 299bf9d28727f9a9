-- What writing bytes into memory does. Assumes nothing.
use Rattle.std.proofs.Common.{◌≡◌, ℕ, zero, suc, ◌+◌, ◌-◌, ◌≤◌, List, [], ◌∷◌, ◌++◌, length, take, drop, set, sym, refl, ap, ◌∙◌, le_of_suc-le-suc, not-suc-le-zero, suc-add, zero-add, arith}
use borrow.Rule.Slice.PartMut.{put_mid}
use Rattle.std.proofs.lemmas.List.{drop-drop}
use Rattle.items.specs.Lines.{over, pasted}

length_over : {A : Type 0} (d s : List A) → length (over d s) ≡ length d
length_over [] s = refl
length_over (x ∷ d) [] = refl
length_over (x ∷ d) (y ∷ s) = ap suc (length_over d s)

pub length_pasted : {A : Type 0} (d : List A) (at : ℕ) (s : List A) → length (pasted d at s) ≡ length d
length_pasted d zero s = length_over d s
length_pasted [] (suc at) s = refl
length_pasted (x ∷ d) (suc at) s = ap suc (length_pasted d at s)

over_none : {A : Type 0} (d : List A) → over d [] ≡ d
over_none [] = refl
over_none (x ∷ d) = refl

-- nothing is no write
pub pasted_none : {A : Type 0} (d : List A) (at : ℕ) → pasted d at [] ≡ d
pasted_none d zero = over_none d
pasted_none [] (suc at) = refl
pasted_none (x ∷ d) (suc at) = ap (λ l. x ∷ l) (pasted_none d at)

-- one byte is one write
pub pasted_one : {A : Type 0} (d : List A) (at : ℕ) (x : A) → set d at x ≡ pasted d at (x ∷ [])
pasted_one [] zero x = refl
pasted_one [] (suc at) x = refl
pasted_one (y ∷ d) zero x = ap (λ l. x ∷ l) (sym (over_none d))
pasted_one (y ∷ d) (suc at) x = ap (λ l. y ∷ l) (pasted_one d at x)

over_pieces : {A : Type 0} (d s t : List A) → over d (s ++ t) ≡ pasted (over d s) (length s) t
over_pieces [] [] t = refl
over_pieces [] (y ∷ s) t = refl
over_pieces (x ∷ d) [] t = refl
over_pieces (x ∷ d) (y ∷ s) t = ap (λ l. y ∷ l) (over_pieces d s t)

-- two pieces, one after the other
pub pasted_pieces : {A : Type 0} (d : List A) (at : ℕ) (s t : List A) → pasted d at (s ++ t) ≡ pasted (pasted d at s) (at + length s) t
pasted_pieces d zero s t = rw zero-add (over_pieces d s t)
pasted_pieces [] (suc at) s t = rw suc-add refl
pasted_pieces (x ∷ d) (suc at) s t = rw suc-add (ap (λ l. x ∷ l) (pasted_pieces d at s t))

over_back : {A : Type 0} (d s t : List A) → over d (s ++ t) ≡ over (pasted d (length s) t) s
over_back [] [] t = refl
over_back [] (y ∷ s) t = refl
over_back (x ∷ d) [] t = sym (over_none (over (x ∷ d) t))
over_back (x ∷ d) (y ∷ s) t = ap (λ l. y ∷ l) (over_back d s t)

-- the second of two pieces may be written first
pub pasted_back : {A : Type 0} (d : List A) (at : ℕ) (s t : List A) → pasted d at (s ++ t) ≡ pasted (pasted d (at + length s) t) at s
pasted_back d zero s t = rw zero-add (over_back d s t)
pasted_back [] (suc at) s t = rw suc-add refl
pasted_back (x ∷ d) (suc at) s t = rw suc-add (ap (λ l. x ∷ l) (pasted_back d at s t))

over_whole : {A : Type 0} (d s : List A) → length s ≤ length d → over d s ≡ s ++ drop (length s) d
over_whole [] [] h = refl
over_whole [] (y ∷ s) h = absurd (not-suc-le-zero h)
over_whole (x ∷ d) [] h = refl
over_whole (x ∷ d) (y ∷ s) h = ap (λ l. y ∷ l) (over_whole d s (le_of_suc-le-suc h))

-- bytes that fit stand between what was before them and what was after
pub pasted_whole : {A : Type 0} (d : List A) (at : ℕ) (s : List A) → at + length s ≤ length d → pasted d at s ≡ take at d ++ (s ++ drop (at + length s) d)
pasted_whole d zero s h = rw zero-add (over_whole d s (omega arith))
pasted_whole [] (suc at) s h = absurd (omega arith)
pasted_whole (x ∷ d) (suc at) s h = rw suc-add (ap (λ l. x ∷ l) (pasted_whole d at s (omega arith)))

-- a copy over a part is such a write
pub copied_over : (d : List ℕ) (at : ℕ) (s t : List ℕ) → at + length s ≤ length d → t ≡ s → put_mid at (at + length s - at) d t ≡ pasted d at s
copied_over d at s t h e =
    let long : at + length s - at ≡ length s = omega arith in
    rw (e, long, drop-drop, pasted_whole d at s h) refl

-- four pieces, one after the other
pub pasted_four : {A : Type 0} (d : List A) (p q r s : ℕ) (a b c e : List A) → q ≡ p + length a → r ≡ q + length b → s ≡ r + length c → pasted (pasted (pasted (pasted d p a) q b) r c) s e ≡ pasted d p (a ++ (b ++ (c ++ e)))
pasted_four d p q r s a b c e i j k =
    rw (k, j, i) (sym (pasted_pieces d p a (b ++ (c ++ e)) ∙ pasted_pieces (pasted d p a) (p + length a) b (c ++ e) ∙ pasted_pieces (pasted (pasted d p a) (p + length a) b) (p + length a + length b) c e))

over_again : {A : Type 0} (d a b : List A) → length a ≤ length b → over (over d a) b ≡ over d b
over_again [] a b h = refl
over_again (x ∷ d) [] b h = refl
over_again (x ∷ d) (y ∷ a) [] h = absurd (omega arith)
over_again (x ∷ d) (y ∷ a) (z ∷ b) h = ap (λ l. z ∷ l) (over_again d a b (omega arith))

-- what is written over again, and at least as far, does not matter
pub pasted_again : {A : Type 0} (d : List A) (at : ℕ) (a b : List A) → length a ≤ length b → pasted (pasted d at a) at b ≡ pasted d at b
pasted_again d zero a b h = over_again d a b h
pasted_again [] (suc at) a b h = refl
pasted_again (x ∷ d) (suc at) a b h = ap (λ l. x ∷ l) (pasted_again d at a b h)

-- as many written over memory as it has
pub over_same : {A : Type 0} (d s : List A) → length d ≡ length s → over d s ≡ s
over_same [] [] h = refl
over_same [] (x ∷ s) h = absurd (omega arith)
over_same (m ∷ d) [] h = absurd (omega arith)
over_same (m ∷ d) (x ∷ s) h = ap (λ l. x ∷ l) (over_same d s (omega arith))
