use Rattle.serial.specs.Accesses.{made_by}
use Rattle.serial.specs.Paths.{In}
use Rattle.serial.proofs.Effects.{path_push}
use Rattle.serial.proofs.access_adds_only_paths_into_its_transaction.Goals as goal

pub returns : goal.returns
returns c conflict xs y committed barred s t = path_push made_by conflict (In committed) xs y barred s t
