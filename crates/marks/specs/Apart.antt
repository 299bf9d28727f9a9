-- Lists in which held marks are told apart. Assumes nothing.
use Rattle.std.specs.Prelude.{ℕ, ◌^◌, ◌<◌, Bool, true, not, ◌&&◌, ◌||◌, List, [], ◌∷◌}
use Rattle.std.specs.List.{AllByRecursion, list_any}
use Rattle.items.specs.declared.mode.Mode.{Mode}
use Rattle.marks.specs.Marks.{MarkMeant, same_access, is_vacant, is_held_of}

-- whether no two held marks have the same fields and mode
abbrev pub told_apart : List MarkMeant → Bool
told_apart [] = true
told_apart (m ∷ ms) = (is_vacant m || not (list_any (is_held_of m.fields m.mode) ms)) && told_apart ms

-- whether an access, by its fields and mode, is in a list of accesses
abbrev pub is_listed : List (List ℕ × Mode) → List ℕ → Mode → Bool
is_listed keys fs mode = list_any (λ a. same_access a.0 a.1 fs mode) keys

-- whether no access is in the list twice
abbrev pub listed_once : List (List ℕ × Mode) → Bool
listed_once [] = true
listed_once (a ∷ rest) = not (is_listed rest a.0 a.1) && listed_once rest

-- only bays hold marks: both sets of each mark are below 2^32
abbrev pub OnlyBays : List MarkMeant → Type 0
OnlyBays ms = AllByRecursion (λ m. (m.own < 2 ^ 32) × (m.inherited < 2 ^ 32)) ms
