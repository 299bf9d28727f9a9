use Rattle.watch.proofs.RunAgreement.{runs_agree}
use Rattle.watch.proofs.run.the_calls_of_a_run_settle_its_answers.Goals as goal

pub returns : goal.returns
returns c = runs_agree
