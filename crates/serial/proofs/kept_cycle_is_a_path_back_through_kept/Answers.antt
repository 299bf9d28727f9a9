use Rattle.serial.specs.Accesses.{made_by}
use Rattle.serial.proofs.Effects.{cycle_kept}
use Rattle.serial.proofs.kept_cycle_is_a_path_back_through_kept.Goals as goal

pub returns : goal.returns
returns c conflict xs set = cycle_kept made_by conflict set xs
