use Rattle.serial.specs.Accesses.{made_by}
use Rattle.serial.proofs.SameTransaction.{same_transaction_lem}
use Rattle.serial.proofs.Serializing.{serializable_exactly_without_cycle}
use Rattle.serial.proofs.serializable_exactly_without_cycle.Goals as goal

pub returns : goal.returns
returns c conflict xs = serializable_exactly_without_cycle same_transaction_lem made_by conflict xs
