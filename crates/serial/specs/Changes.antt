-- What is kept of a list of accesses, how a set of transactions changes, and what paths reach.
use Rattle.std.specs.Prelude.{◌≡◌, Bool, true, cond, ◌⊎◌, ◌↔◌, List, [], ◌∷◌, ◌≢◌}
use Rattle.serial.specs.Lists.{Some}
use Rattle.serial.specs.Accesses.{Conflict}
use Rattle.serial.specs.Paths.{PathIn, In}

-- The accesses whose transactions are in the set, in the order in which they stand.
abbrev pub kept : {A T : Type 0} → (A → T) → (T → Bool) → List A → List A
kept by set [] = []
kept by set (x ∷ xs) = cond (set (by x)) (x ∷ kept by set xs) (kept by set xs)

-- The larger set has b and what the smaller has, and no more.
abbrev pub Adds : {T : Type 0} → T → (T → Bool) → (T → Bool) → Type 0
Adds {T} b smaller larger = (u : T) → In larger u ↔ (In smaller u ⊎ (u ≡ b))

-- The set has every transaction but b.
abbrev pub AllBut : {T : Type 0} → T → (T → Bool) → Type 0
AllBut {T} b set = (u : T) → In set u ↔ (u ≢ b)

-- Transaction u made an access in the list that passes the test.
abbrev pub Made : {A T : Type 0} → (A → T) → (A → Bool) → List A → T → Type 0
Made by test xs u = Some (λ x. (by x ≡ u) × (test x ≡ true)) xs

-- Transaction u made an access in the list that conflicts with y.
abbrev pub MadeConflicting : {A T : Type 0} → (A → T) → (A → A → Bool) → A → List A → T → Type 0
MadeConflicting by conflict y xs u = Some (λ x. (by x ≡ u) × Conflict by conflict x y) xs

-- From s a path through the set leads to a transaction of the set that has P.
abbrev pub Reaches : {A T : Type 0} → (A → T) → (A → A → Bool) → List A → (T → Bool) → (T → Type 0) → T → Type 0
Reaches {A} {T} by conflict xs set P s = (u : T) × In set u × PathIn by conflict xs set s u × P u
