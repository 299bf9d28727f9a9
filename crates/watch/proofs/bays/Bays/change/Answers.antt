use Rattle.std.proofs.Common.{refl}
use Rattle.watch.proofs.bays.Bays.change.Goals as goal

pub returns-clause-records : goal.returns-clause-records
returns-clause-records g c = (_, record { shown = _; shows = refl; left = _; met = c.change.ensures; leaves = refl }, refl)
