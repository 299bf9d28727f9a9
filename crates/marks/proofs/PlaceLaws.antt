-- The search for a place, one mark more at a time. Assumes nothing.
use Rattle.std.proofs.Common.{◌≡◌, ℕ, zero, suc, ◌+◌, ◌<◌, Bool, true, false, ◌||◌, ltb, List, [], ◌∷◌, is_some, Some, None, Option, map, length, get_or, position, take, refl, ap, ◌∙◌, arith}
use Rattle.std.specs.List.{list_any, position_or_len}
use Rattle.std.proofs.lemmas.Bool.{cond-true, lt-ltb}
use Rattle.std.proofs.lemmas.List.Folds.{list_any_more}
use Rattle.std.proofs.lemmas.List.{length-map}
use Rattle.items.specs.declared.mode.Mode.{Mode}
use Rattle.marks.specs.Marks.{MarkMeant, is_vacant, is_held_of}
use Rattle.marks.specs.Places.{VacantAt}
use Rattle.marks.proofs.SliceLaws.{read_here}

-- what is remembered of the first i marks: a vacant one, or that none is
abbrev pub Spare : List MarkMeant → ℕ → Option ℕ → Type 0
Spare ms i (Some p) = VacantAt ms p
Spare ms i None = list_any is_vacant (take i ms) ≡ false

-- none of the first i marks is the one that is looked for
abbrev pub Searched : List MarkMeant → List ℕ → Mode → ℕ → Option ℕ → Type 0
Searched ms fs mode i spare = (list_any (is_held_of fs mode) (take i ms) ≡ false) × Spare ms i spare

module _ (ms : List MarkMeant) where
  -- one mark more is read, and what is remembered stays: it is a vacant mark, or this mark is held too
  pub spare_more : (i j : ℕ) (here : Bool) → list_any is_vacant (take j ms) ≡ (list_any is_vacant (take i ms) || here) → (spare : Option ℕ) → (is_some spare ≡ false → here ≡ false) → Spare ms i spare → Spare ms j spare
  spare_more i j here more (Some p) e s = s
  spare_more i j here more None e s = let held = e refl in grind arith

module _ (test : MarkMeant → Bool) where
  place_of_first : (ms : List MarkMeant) (i : ℕ) (d : MarkMeant) → i < length ms → list_any test (take i ms) ≡ false → test (get_or ms i d) ≡ true → position_or_len test ms ≡ i
  place_of_first [] i d h before e = absurd (omega arith)
  place_of_first (m ∷ ms) zero d h before e = grind arith
  place_of_first (m ∷ ms) (suc i) d h before e =
      let rest = place_of_first ms i d (omega arith) (grind arith) e in grind arith

-- the next mark that is read, after the first i
module _ {A : Type 0} (meant : A → MarkMeant) (xs : List A) (i : ℕ) (x : A) (h : i < length xs) (e : x ≡ get_or xs i x) where
  within : i < length (map meant xs)
  within = simp length-map h

  pub any_more : (test : MarkMeant → Bool) → list_any test (take (i + 1) (map meant xs)) ≡ (list_any test (take i (map meant xs)) || test (meant x))
  any_more test =
      list_any_more test (map meant xs) i (meant x) within
      ∙ ap (λ m. list_any test (take i (map meant xs)) || test m) (read_here meant xs i x h e (meant x))

  pub vacant_here : is_vacant (meant x) ≡ true → VacantAt (map meant xs) i
  vacant_here t = (within, ap is_vacant (read_here meant xs i x h e _) ∙ t)

  pub first_here : (test : MarkMeant → Bool) → list_any test (take i (map meant xs)) ≡ false → test (meant x) ≡ true → position test (map meant xs) ≡ Some i
  first_here test before t =
      let at = place_of_first test (map meant xs) i (meant x) within before (ap test (read_here meant xs i x h e (meant x)) ∙ t) in
      rw at (cond-true (ltb i (length (map meant xs))) _ _ (lt-ltb _ _ within))
