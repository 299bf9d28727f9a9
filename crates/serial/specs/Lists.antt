-- What stands somewhere in a list, what stands everywhere, and what stands before what.
-- A list of accesses is in order of acceptance, oldest first.
use Rattle.std.specs.Prelude.{◌⊎◌, List, [], ◌∷◌}

-- Some element of the list has P.
abbrev pub Some : {A : Type 0} → (A → Type 0) → List A → Type 0
Some P [] = ⊥
Some P (x ∷ xs) = P x ⊎ Some P xs

-- Every element of the list has P.
abbrev pub Every : {A : Type 0} → (A → Type 0) → List A → Type 0
Every P [] = Unit {0}
Every P (x ∷ xs) = P x × Every P xs

-- Some element of the list stands in the relation R to some element after it.
abbrev pub SomePair : {A : Type 0} → (A → A → Type 0) → List A → Type 0
SomePair R [] = ⊥
SomePair R (x ∷ xs) = Some (R x) xs ⊎ SomePair R xs
