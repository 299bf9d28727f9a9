use Rattle.items.specs.Entries.{event_meant}
use Rattle.items.specs.Modes.{conflicting}
use Rattle.watch.specs.Watches.{state_of, call_of}
use Rattle.watch.proofs.Keeping.{account_kept}
use Rattle.watch.proofs.ModeFacts.{conflicting_mutual}
use Rattle.watch.proofs.Settling.{vacancy_settled}
use Rattle.watch.proofs.watch.Watch.call.Goals as goal

pub returns-clause-account : goal.returns-clause-account
returns-clause-account g c = λ h was.
    let state = state_of g.B.Board.linked g.I.Kind.fields in
    account_kept g.I.Kind.overlapping conflicting g.met.I.Kind.overlap_is_mutual conflicting_mutual h (state c.args.self.now) (state c.step.new.self) (call_of c.args.bay (event_meant g.I.Kind.fields c.args.event)) c.step.result was c.step.ensures.step

pub returns-clause-settled : goal.returns-clause-settled
returns-clause-settled g c = λ h was. vacancy_settled g.I.Kind.overlapping conflicting h (state_of g.B.Board.linked g.I.Kind.fields c.args.self.now) was
