use Rattle.std.proofs.Common.{◌≡◌, ◌+◌, ◌≤◌, length, drop}
use Rattle.items.specs.Lines.{ending, pasted}
use Rattle.items.proofs.line.put_ending.Given as goal

abbrev pub invariant-loop-n : goal.invariant-loop-n
invariant-loop-n l =
    (l.place + length (ending (drop l.n-index l.numbers)) ≤ length l.out)
    × (pasted l.out l.place (ending (drop l.n-index l.numbers)) ≡ pasted l.initial.out l.at (ending l.numbers))
