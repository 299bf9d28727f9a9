use Rattle.serial.specs.Accesses.{made_by}
use Rattle.serial.proofs.Effects.{leads_kept}
use Rattle.serial.proofs.kept_accesses_lead_as_in_the_whole.Goals as goal

pub returns : goal.returns
returns c conflict xs set s t = leads_kept made_by conflict set xs s t
