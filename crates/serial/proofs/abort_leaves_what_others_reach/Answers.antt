use Rattle.serial.specs.Accesses.{made_by}
use Rattle.serial.specs.Changes.{Made, kept}
use Rattle.serial.specs.Paths.{In}
use Rattle.serial.proofs.Effects.{made_kept, reaches_without}
use Rattle.std.proofs.Common.{subst}
use Rattle.serial.proofs.abort_leaves_what_others_reach.Goals as goal

pub returns : goal.returns
returns c conflict xs b committed others barred but test s =
    reaches_without made_by conflict committed others b barred but (Made made_by test xs) (Made made_by test (kept made_by others xs))
    (λ u m. made_kept made_by others test xs u ((but u).1 (λ e. barred (subst (In committed) e m)))) xs s
