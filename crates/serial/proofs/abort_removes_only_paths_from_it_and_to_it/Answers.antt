use Rattle.serial.specs.Accesses.{made_by}
use Rattle.serial.proofs.Effects.{path_without}
use Rattle.serial.proofs.abort_removes_only_paths_from_it_and_to_it.Goals as goal

pub returns : goal.returns
returns c conflict xs b committed others barred but s t = path_without made_by conflict committed others b barred but xs s t
