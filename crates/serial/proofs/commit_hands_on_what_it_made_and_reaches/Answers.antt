use Rattle.serial.specs.Accesses.{made_by}
use Rattle.serial.specs.Changes.{Made}
use Rattle.serial.proofs.Effects.{reaches_adds}
use Rattle.serial.proofs.commit_hands_on_what_it_made_and_reaches.Goals as goal

pub returns : goal.returns
returns c conflict xs b before after adds test s = reaches_adds made_by conflict before after b adds (Made made_by test xs) xs s
