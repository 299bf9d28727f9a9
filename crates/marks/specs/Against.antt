-- Which bays hold a mark against an access. Assumes nothing.
use Rattle.std.specs.Prelude.{ℕ, Bool, ◌&&◌, List}
use Rattle.std.specs.List.{list_any}
use Rattle.items.specs.declared.mode.Mode.{Mode}
use Rattle.boards.specs.BaySets.{bit, set_number}
use Rattle.marks.specs.Marks.{MarkMeant, reached}

-- whether a mark's item overlaps the item with these fields and its mode conflicts with this mode
abbrev pub is_against : (List ℕ → List ℕ → Bool) → (Mode → Mode → Bool) → List ℕ → Mode → MarkMeant → Bool
is_against overlapping conflicting fs mode m = overlapping fs m.fields && conflicting mode m.mode

-- whether bay k holds such a mark: either way, but a given bay itself only as inherited
abbrev pub holds_against : (List ℕ → List ℕ → Bool) → (Mode → Mode → Bool) → ℕ → List ℕ → Mode → List MarkMeant → ℕ → Bool
holds_against overlapping conflicting bay fs mode ms k = list_any (λ m. is_against overlapping conflicting fs mode m && bit (reached bay m) k) ms

-- the set of the bays that do
abbrev pub linked_by : (List ℕ → List ℕ → Bool) → (Mode → Mode → Bool) → ℕ → List ℕ → Mode → List MarkMeant → ℕ
linked_by overlapping conflicting bay fs mode ms = set_number (holds_against overlapping conflicting bay fs mode ms) 32
