-- Where in a list of marks an item and mode can be held. Assumes nothing.
use Rattle.std.specs.Prelude.{◌≡◌, ℕ, ◌<◌, true, false, List, [], Some, None, Option, length, position, slice_index_or}
use Rattle.std.specs.List.{list_any}
use Rattle.items.specs.declared.mode.Mode.{Mode}
use Rattle.items.specs.declared.mode.Mode.TheVariants.{Look}
use Rattle.marks.specs.declared.slices.Place.{Place}
use Rattle.marks.specs.declared.slices.Place.TheVariants.{Held, Vacant}
use Rattle.marks.specs.Marks.{MarkMeant, is_vacant, is_held_of, fresh_mark}

-- the mark at a place, or one that means nothing past the end
abbrev pub mark_at : List MarkMeant → ℕ → MarkMeant
mark_at ms p = slice_index_or ms p (fresh_mark [] Look)

-- there is a mark at a place, and it is vacant
abbrev pub VacantAt : List MarkMeant → ℕ → Type 0
VacantAt ms p = (p < length ms) × (is_vacant (mark_at ms p) ≡ true)

-- what a place that was looked for is: that of the first held mark with these fields and this mode; that of a vacant
-- mark, of whichever, where none is held; or none, where none is held and none is vacant
abbrev pub Found : List MarkMeant → List ℕ → Mode → Option Place → Type 0
Found ms fs mode (Some (Held p)) = position (is_held_of fs mode) ms ≡ Some p
Found ms fs mode (Some (Vacant p)) = (list_any (is_held_of fs mode) ms ≡ false) × VacantAt ms p
Found ms fs mode None = (list_any (is_held_of fs mode) ms ≡ false) × (list_any is_vacant ms ≡ false)
