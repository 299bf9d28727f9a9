-- Tests of the marks of a list: whether some mark passes, and which one. Assumes nothing.
use Rattle.std.proofs.Common.{◌≡◌, ℕ, zero, suc, ◌<◌, Bool, true, false, ◌&&◌, ◌||◌, List, [], ◌∷◌, map, length, set, refl, ap, ap₂, ⊎_elim, arith}
use Rattle.std.specs.List.{list_any}
use Rattle.std.proofs.lemmas.Bool.{both_ways, cases_Bool, or_cases, or_from, or_left, or_right}
use Rattle.marks.specs.Marks.{MarkMeant}
use Rattle.marks.specs.Places.{mark_at}

module _ (test : MarkMeant → Bool) where
  -- where some mark passes, there is one that does
  pub any_some : (ms : List MarkMeant) → list_any test ms ≡ true → (m : MarkMeant) × (test m ≡ true)
  any_some [] e = absurd (grind arith)
  any_some (m ∷ ms) e = ⊎_elim (λ here. (m, here)) (any_some ms) (or_cases (test m) (list_any test ms) e)

  pub any_none : ((m : MarkMeant) → test m ≡ false) → (ms : List MarkMeant) → list_any test ms ≡ false
  any_none e [] = refl
  any_none e (m ∷ ms) = or_from (test m) (list_any test ms) (e m) (any_none e ms)

  pub any_map : {A : Type 0} (f : A → MarkMeant) (xs : List A) → list_any test (map f xs) ≡ list_any (λ x. test (f x)) xs
  any_map f [] = refl
  any_map f (x ∷ xs) = ap (λ y. test (f x) || y) (any_map f xs)

  -- a mark is written over that did not pass
  pub any_set : (ms : List MarkMeant) (p : ℕ) (n : MarkMeant) (was : MarkMeant → Bool) → (p < length ms) × (was (mark_at ms p) ≡ true) → ((m : MarkMeant) → was m ≡ true → test m ≡ false) → list_any test (set ms p n) ≡ (test n || list_any test ms)
  any_set [] p n was at out = absurd (omega (arith, at.0))
  any_set (m ∷ ms) zero n was at out = let old = out m at.1 in grind arith
  any_set (m ∷ ms) (suc p) n was at out = let rest = any_set ms p n was (omega (arith, at.0), at.1) out in grind arith

  pub any_and : (q : Bool) (ms : List MarkMeant) → list_any (λ m. q && test m) ms ≡ (q && list_any test ms)
  any_and q [] = grind arith
  any_and q (m ∷ ms) = let rest = any_and q ms in grind arith

  module _ (other : MarkMeant → Bool) where
    pub any_same : ((m : MarkMeant) → test m ≡ other m) → (ms : List MarkMeant) → list_any test ms ≡ list_any other ms
    any_same e [] = refl
    any_same e (m ∷ ms) = ap₂ (λ x y. x || y) (e m) (any_same e ms)

    pub any_or : (ms : List MarkMeant) → list_any (λ m. test m || other m) ms ≡ (list_any test ms || list_any other ms)
    any_or [] = refl
    any_or (m ∷ ms) = let rest = any_or ms in grind arith

    -- what passes the one passes the other
    pub any_weaker : ((m : MarkMeant) → test m ≡ true → other m ≡ true) → (ms : List MarkMeant) → list_any test ms ≡ true → list_any other ms ≡ true
    any_weaker h [] e = e
    any_weaker h (m ∷ ms) e =
        ⊎_elim (λ here. or_left (other m) (list_any other ms) (h m here)) (λ there. or_right (other m) (list_any other ms) (any_weaker h ms there)) (or_cases (test m) (list_any test ms) e)

    pub any_weaker_none : ((m : MarkMeant) → test m ≡ true → other m ≡ true) → (ms : List MarkMeant) → list_any other ms ≡ false → list_any test ms ≡ false
    any_weaker_none h ms e =
        ⊎_elim (λ t. absurd (both_ways (list_any other ms) e (any_weaker h ms t))) (λ f. f) (cases_Bool (list_any test ms))
