-- Interchanges of neighbours, and the serial arrangements that they may reach.
use Rattle.std.specs.Prelude.{◌≡◌, Bool, List, [], ◌∷◌, ◌++◌, ◌≢◌}
use Rattle.serial.specs.Lists.{Some, Every}
use Rattle.serial.specs.Accesses.{Conflict}

-- An interchange swaps two neighbours that different transactions made and that do not conflict.
pub data Interchange {A T : Type 0} (by : A → T) (conflict : A → A → Bool) : List A → List A → Type 0 where
  here : {x y : A} {xs : List A} → (by x ≢ by y) → (Conflict by conflict x y → ⊥) →
      Interchange by conflict (x ∷ (y ∷ xs)) (y ∷ (x ∷ xs))
  there : {x : A} {xs ys : List A} → Interchange by conflict xs ys → Interchange by conflict (x ∷ xs) (x ∷ ys)

-- Any number of interchanges, one after another; none is a number too.
pub data Interchanges {A T : Type 0} (by : A → T) (conflict : A → A → Bool) : List A → List A → Type 0 where
  unchanged : {xs : List A} → Interchanges by conflict xs xs
  and_then : {xs ys zs : List A} → Interchange by conflict xs ys → Interchanges by conflict ys zs →
      Interchanges by conflict xs zs

-- Transaction t made the first access of the list.
abbrev pub Next : {A T : Type 0} → (A → T) → T → List A → Type 0
Next by t [] = ⊥
Next by t (y ∷ ys) = by y ≡ t

-- A list is serial when every transaction's accesses stand next to one another: where an access's transaction comes again, it comes next.
abbrev pub Serial : {A T : Type 0} → (A → T) → List A → Type 0
Serial by [] = Unit {0}
Serial by (x ∷ xs) = (Some (λ y. by y ≡ by x) xs → Next by (by x) xs) × Serial by xs

-- Between two accesses of one transaction stand only accesses of it.
abbrev pub OnlyOwnBetween : {A T : Type 0} → (A → T) → List A → Type 0
OnlyOwnBetween {A} by xs =
    (before between after : List A) (x z : A) → xs ≡ before ++ (x ∷ (between ++ (z ∷ after))) → by z ≡ by x → Every (λ y. by y ≡ by x) between

-- A list is serializable by interchange: interchanges lead from it to a serial list.
abbrev pub Serializable : {A T : Type 0} → (A → T) → (A → A → Bool) → List A → Type 0
Serializable {A} by conflict xs = (ys : List A) × Interchanges by conflict xs ys × Serial by ys
