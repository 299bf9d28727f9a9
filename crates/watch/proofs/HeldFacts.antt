-- The fields and modes of held marks, listed. Assumes nothing.
use Rattle.std.proofs.Common.{◌≡◌, ℕ, Bool, true, false, cond, not, ◌&&◌, ◌||◌, List, [], ◌∷◌, refl, arith}
use Rattle.std.proofs.lemmas.Bool.{and_from, and_parts, cond_both}
use Rattle.items.specs.declared.mode.Mode.{Mode}
use Rattle.marks.specs.Marks.{MarkMeant, is_vacant, is_of, is_held_of}
use Rattle.std.specs.List.{list_any}
use Rattle.marks.specs.Apart.{told_apart, is_listed, listed_once}

-- The fields and modes of the held marks.
abbrev pub held_of : List MarkMeant → List (List ℕ × Mode)
held_of [] = []
held_of (m ∷ ms) = cond (is_vacant m) (held_of ms) ((m.fields, m.mode) ∷ held_of ms)

pub held_listed : (ms : List MarkMeant) (fs : List ℕ) (mode : Mode) → is_listed (held_of ms) fs mode ≡ list_any (is_held_of fs mode) ms
held_listed [] fs mode = refl
held_listed (m ∷ ms) fs mode =
    let rest = held_listed ms fs mode in
    cond_both (is_vacant m) (held_of ms) ((m.fields, m.mode) ∷ held_of ms) (λ l. is_listed l fs mode ≡ list_any (is_held_of fs mode) (m ∷ ms))
    (λ e. vacant (is_of fs mode m) (is_vacant m) _ _ e rest)
    (λ e. held (is_of fs mode m) (is_vacant m) _ _ e rest)
  where
    vacant : (i v l a : Bool) → v ≡ true → l ≡ a → l ≡ ((i && not v) || a)
    vacant i v l a e r = grind arith

    held : (i v l a : Bool) → v ≡ false → l ≡ a → (i || l) ≡ ((i && not v) || a)
    held i v l a e r = grind arith

pub held_once : (ms : List MarkMeant) → told_apart ms ≡ true → listed_once (held_of ms) ≡ true
held_once [] e = refl
held_once (m ∷ ms) e =
    let parts = and_parts (is_vacant m || not (list_any (is_held_of m.fields m.mode) ms)) (told_apart ms) e in
    let rest = held_once ms parts.1 in
    cond_both (is_vacant m) (held_of ms) ((m.fields, m.mode) ∷ held_of ms) (λ l. listed_once l ≡ true)
    (λ v. rest)
    (λ v. and_from _ _ (apart (is_vacant m) (list_any (is_held_of m.fields m.mode) ms) _ v parts.0 (held_listed ms m.fields m.mode)) rest)
  where
    apart : (v a l : Bool) → v ≡ false → (v || not a) ≡ true → l ≡ a → not l ≡ true
    apart v a l e p r = grind arith
