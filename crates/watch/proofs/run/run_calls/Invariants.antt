use Rattle.std.proofs.Common.{◌≡◌, map, length, take, vec_items}
use Rattle.items.specs.Entries.{entry_meant}
use Rattle.items.specs.Modes.{conflicting}
use Rattle.watch.specs.Histories.{history_of}
use Rattle.watch.specs.Watches.{state_of}
use Rattle.watch.specs.Runs.{AccountedRun}
use Rattle.watch.proofs.run.run_calls.Given as goal

abbrev pub invariant-loop-call : goal.invariant-loop-call
invariant-loop-call g l =
    (length (vec_items l.answers) ≡ l.call-index)
    × AccountedRun g.I.Kind.overlapping conflicting (state_of g.B.Board.linked g.I.Kind.fields l.initial.watch) (history_of (map (entry_meant g.I.Kind.fields) (take l.call-index l.calls)) (vec_items l.answers)) (state_of g.B.Board.linked g.I.Kind.fields l.watch)
