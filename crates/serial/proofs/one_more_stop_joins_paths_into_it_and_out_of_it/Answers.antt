use Rattle.serial.specs.Accesses.{made_by}
use Rattle.serial.proofs.Effects.{path_adds}
use Rattle.serial.proofs.one_more_stop_joins_paths_into_it_and_out_of_it.Goals as goal

pub returns : goal.returns
returns c conflict xs b before after adds s t = path_adds made_by conflict before after b adds xs s t
