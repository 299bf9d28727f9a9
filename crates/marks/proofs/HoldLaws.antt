-- A hold, made at the place that was found. Assumes nothing.
use Rattle.std.proofs.Common.{◌≡◌, ℕ, zero, suc, ◌<◌, true, false, List, [], ◌∷◌, Some, length, position, set, sym, refl, ap, ◌∙◌, arith}
use Rattle.std.specs.List.{list_any}
use Rattle.std.proofs.lemmas.Bool.{cond-true, cond-false}
use Rattle.std.proofs.lemmas.List.Folds.{list_any_at}
use Rattle.std.proofs.lemmas.List.Quantifiers.{position-Some}
use Rattle.items.specs.declared.mode.Mode.{Mode}
use Rattle.items.specs.declared.mode.Mode.TheVariants.{Look}
use Rattle.marks.specs.Marks.{MarkMeant, is_vacant, is_held_of, fresh_mark, joins}
use Rattle.marks.specs.Places.{VacantAt, mark_at}
use Rattle.marks.specs.Steps.{first_joined, HoldStep}

module _ (bay : ℕ) (fs : List ℕ) (mode : Mode) where
  joined_first : (ms : List MarkMeant) (p : ℕ) → p < length ms → is_held_of fs mode (mark_at ms p) ≡ true → ((k : ℕ) → k < p → is_held_of fs mode (mark_at ms k) ≡ false) → set ms p (joins bay (mark_at ms p)) ≡ first_joined bay fs mode ms
  joined_first [] p h e before = refl
  joined_first (m ∷ ms) zero h e before = sym (cond-true (is_held_of fs mode m) _ _ e)
  joined_first (m ∷ ms) (suc p) h e before =
      ap (λ l. m ∷ l) (joined_first ms p (omega arith) e (λ k l. before (suc k) (omega arith)))
      ∙ sym (cond-false (is_held_of fs mode m) _ _ (before 0 (omega arith)))

  module _ (ms after : List MarkMeant) (p : ℕ) where
    pub held_step : position (is_held_of fs mode) ms ≡ Some p → after ≡ set ms p (joins bay (mark_at ms p)) → HoldStep bay fs mode ms true after
    held_step e a =
        let first = position-Some (is_held_of fs mode) ms p (fresh_mark [] Look) e in
        let some = list_any_at (is_held_of fs mode) ms p (fresh_mark [] Look) first.0 first.1 in
        record { answer = grind arith; marks = rw some (a ∙ joined_first ms p first.0 first.1 first.2) }

    pub vacant_step : list_any (is_held_of fs mode) ms ≡ false → VacantAt ms p → after ≡ set ms p (joins bay (fresh_mark fs mode)) → HoldStep bay fs mode ms true after
    vacant_step e v a =
        let some = list_any_at is_vacant ms p (fresh_mark [] Look) v.0 v.1 in
        record { answer = grind arith; marks = rw (e, some) (p, v, a) }
