use Rattle.std.proofs.Common.{◌≡◌, length, drop}
use Rattle.items.specs.Lines.{ending, fitted}
use Rattle.items.proofs.line.ending_end.Given as goal

abbrev pub invariant-loop-n : goal.invariant-loop-n
invariant-loop-n l = fitted l.room l.end (length (ending (drop l.n-index l.numbers))) ≡ fitted l.room l.at (length (ending l.numbers))
