-- Access modes and which of them conflict. Assumes nothing.
use Rattle.std.specs.Prelude.{◌≡◌, ℕ, Bool, true, false, List, [], slice_index_or}
use Rattle.items.specs.declared.mode.Mode.{Mode}
use Rattle.items.specs.declared.mode.Mode.TheVariants.{Look, Set, Add, Raise}

-- the row of each mode in a conflict table, and its column
abbrev pub row_of : Mode → ℕ
row_of Look = 0
row_of Set = 1
row_of Add = 2
row_of Raise = 3

-- what a table says of two modes
abbrev pub tells : List (List Bool) → Mode → Mode → Bool
tells table m n = slice_index_or (slice_index_or table (row_of m) []) (row_of n) false

-- only look with look, add with add and raise with raise do not conflict
abbrev pub conflicting : Mode → Mode → Bool
conflicting Look Look = false
conflicting Add Add = false
conflicting Raise Raise = false
conflicting Look Set = true
conflicting Look Add = true
conflicting Look Raise = true
conflicting Set Look = true
conflicting Set Set = true
conflicting Set Add = true
conflicting Set Raise = true
conflicting Add Look = true
conflicting Add Set = true
conflicting Add Raise = true
conflicting Raise Look = true
conflicting Raise Set = true
conflicting Raise Add = true

-- a table is even when it says the same of two modes in either order
abbrev pub Even : List (List Bool) → Type 0
Even table = (m n : Mode) → tells table m n ≡ tells table n m
