-- Transactions, their accesses, and which transaction leads to which.
use Rattle.std.specs.Prelude.{◌≡◌, ℕ, Bool, true, List, ◌≢◌}
use Rattle.serial.specs.Lists.{SomePair}

-- A transaction is named by the bay it runs in and by how many transactions ended in that bay before it.
pub record Transaction : Type 0 where
  pub bay : ℕ
  pub number : ℕ

-- An access is made by a transaction, to an item that has these fields, in a mode.
pub record Access : Type 0 where
  pub transaction : Transaction
  pub fields : List ℕ
  pub mode : ℕ

-- The transaction that made an access.
abbrev pub made_by : Access → Transaction
made_by x = x.transaction

-- An earlier access x and a later y conflict: different transactions made them, and the test of their items and modes says so.
abbrev pub Conflict : {A T : Type 0} → (A → T) → (A → A → Bool) → A → A → Type 0
Conflict by conflict x y = (by x ≢ by y) × (conflict x y ≡ true)

-- Transaction s leads to transaction t: an earlier access of s conflicts with a later access of t.
abbrev pub Leads : {A T : Type 0} → (A → T) → (A → A → Bool) → List A → T → T → Type 0
Leads by conflict xs s t = SomePair (λ x y. (by x ≡ s) × (by y ≡ t) × Conflict by conflict x y) xs
