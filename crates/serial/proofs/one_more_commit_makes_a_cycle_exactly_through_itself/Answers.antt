use Rattle.serial.specs.Accesses.{made_by}
use Rattle.serial.proofs.Effects.{cycle_adds}
use Rattle.serial.proofs.one_more_commit_makes_a_cycle_exactly_through_itself.Goals as goal

pub returns : goal.returns
returns c conflict xs b before after adds none = cycle_adds made_by conflict before after b adds xs none
