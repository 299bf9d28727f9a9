-- Whether two transactions are the same can be decided.
use Rattle.std.proofs.Common.{ap}
use native.Mathlib.Decide.{ℕ_discrete}
use Rattle.serial.specs.Accesses.{Transaction}
use Rattle.serial.proofs.Decisions.{dec_map, dec_and}

pub same_transaction_lem : Discrete Transaction
same_transaction_lem s t =
    dec_map (λ h i. record { bay = h.0 i; number = h.1 i }) (λ e. (ap (λ u. u.bay) e, ap (λ u. u.number) e))
    (dec_and (ℕ_discrete s.bay t.bay) (ℕ_discrete s.number t.number))
