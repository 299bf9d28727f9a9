use Rattle.serial.specs.Accesses.{made_by}
use Rattle.serial.specs.Changes.{Made}
use Rattle.serial.specs.Paths.{In}
use Rattle.serial.proofs.Effects.{made_push, reaches_push}
use Rattle.std.proofs.Common.{[], ◌∷◌, ◌++◌, sym, subst}
use Rattle.serial.proofs.access_leaves_what_is_reached.Goals as goal

pub returns : goal.returns
returns c conflict xs y committed barred test s =
    reaches_push made_by conflict committed (Made made_by test xs) (Made made_by test (xs ++ (y ∷ [])))
    (λ u m. made_push made_by test xs y u (λ e. barred (subst (In committed) (sym e) m))) xs y barred s
