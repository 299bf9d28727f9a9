-- What each call leaves of a list of marks, of any length and any contents. Assumes nothing.
use Rattle.std.specs.Prelude.{◌≡◌, ℕ, Bool, true, false, cond, List, [], ◌∷◌, map, slice_set}
use Rattle.std.specs.List.{list_any}
use Rattle.items.specs.declared.mode.Mode.{Mode}
use Rattle.marks.specs.declared.mark.Mark.{Mark}
use Rattle.marks.specs.Marks.{MarkMeant, meant_mark, meant_marks, is_vacant, is_held_of, fresh_mark, joins, inherits, leaves}
use Rattle.marks.specs.Places.{VacantAt}

-- the marks when a bay holds as own the first that is held with these fields and this mode
abbrev pub first_joined : ℕ → List ℕ → Mode → List MarkMeant → List MarkMeant
first_joined bay fs mode [] = []
first_joined bay fs mode (m ∷ ms) = cond (is_held_of fs mode m) (joins bay m ∷ ms) (m ∷ first_joined bay fs mode ms)

-- the marks when a bay holds one as own that was vacant and is given these fields and this mode; which one is free
abbrev pub VacantTaken : ℕ → List ℕ → Mode → List MarkMeant → List MarkMeant → Type 0
VacantTaken bay fs mode ms after =
    (p : ℕ) × VacantAt ms p × (after ≡ slice_set ms p (joins bay (fresh_mark fs mode)))

-- the marks after a hold, by whether one is held with the fields and mode, and whether one is vacant
abbrev pub AfterHold : Bool → Bool → ℕ → List ℕ → Mode → List MarkMeant → List MarkMeant → Type 0
AfterHold true spare bay fs mode ms after = after ≡ first_joined bay fs mode ms
AfterHold false true bay fs mode ms after = VacantTaken bay fs mode ms after
AfterHold false false bay fs mode ms after = after ≡ ms

-- holding: whether it was done, and the marks after it
pub record HoldStep (bay : ℕ) (fs : List ℕ) (mode : Mode) (ms : List MarkMeant) (was-done : Bool) (after : List MarkMeant) : Type 0 where
  pub answer : was-done ≡ cond (list_any (is_held_of fs mode) ms) true (list_any is_vacant ms)
  pub marks : AfterHold (list_any (is_held_of fs mode) ms) (list_any is_vacant ms) bay fs mode ms after

-- the marks were changed one by one: whatever f each change does to what its mark means, all marks mean what f makes of
-- what they meant
abbrev pub AllChanged : {I : Type 0} → (I → List ℕ) → (Mark I → Mark I → Type 0) → List (Mark I) → List (Mark I) → Type 0
AllChanged {I} fields change ms after =
    (f : MarkMeant → MarkMeant) → ((m n : Mark I) → change m n → meant_mark fields n ≡ f (meant_mark fields m)) → meant_marks fields after ≡ map f (meant_marks fields ms)

-- the marks when the takers inherit those that a bay holds
abbrev pub all_inherited : ℕ → ℕ → List MarkMeant → List MarkMeant
all_inherited bay takers ms = map (inherits bay takers) ms

-- the marks when a bay holds none of them
abbrev pub all_left : ℕ → List MarkMeant → List MarkMeant
all_left bay ms = map (leaves bay) ms

-- the marks when the takers inherit those that a bay holds, and then the bay holds none of them
abbrev pub all_handed_on : ℕ → ℕ → List MarkMeant → List MarkMeant
all_handed_on bay takers ms = all_left bay (all_inherited bay takers ms)
