-- Paths from transaction to transaction.
use Rattle.std.specs.Prelude.{◌≡◌, Bool, true, List}
use Rattle.serial.specs.Accesses.{Leads}

-- A path from s to t by the steps L whose stops, all that stand between its two ends, have C; the ends may be the same.
pub data PathThrough {T : Type 0} (L : T → T → Type 0) (C : T → Type 0) : T → T → Type 0 where
  direct : {s t : T} → L s t → PathThrough L C s t
  through : {s u t : T} → L s u → C u → PathThrough L C u t → PathThrough L C s t

-- A set of transactions is a test; u is in it when the test says so.
abbrev pub In : {T : Type 0} → (T → Bool) → T → Type 0
In set u = set u ≡ true

-- A path from s to t in a list of accesses, through transactions of the set.
abbrev pub PathIn : {A T : Type 0} → (A → T) → (A → A → Bool) → List A → (T → Bool) → T → T → Type 0
PathIn by conflict xs set s t = PathThrough (Leads by conflict xs) (In set) s t

-- Any transaction may be a stop.
abbrev pub Anywhere : {T : Type 0} → T → Type 0
Anywhere u = Unit {0}

-- A list of accesses has a cycle: some transaction has a path back to itself.
abbrev pub Cycle : {A T : Type 0} → (A → T) → (A → A → Bool) → List A → Type 0
Cycle {A} {T} by conflict xs = (t : T) × PathThrough (Leads by conflict xs) Anywhere t t
