use Rattle.serial.specs.Accesses.{made_by}
use Rattle.serial.proofs.Contiguous.{serial_exactly_when_only_own_between}
use Rattle.serial.proofs.serial_exactly_when_only_own_between.Goals as goal

pub returns : goal.returns
returns c xs = serial_exactly_when_only_own_between made_by xs
