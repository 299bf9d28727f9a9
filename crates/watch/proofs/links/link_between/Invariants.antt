use Rattle.std.proofs.Common.{◌≡◌, ℕ, ◌&&◌, ◌||◌, ltb}
use Rattle.boards.specs.BaySets.{bit}
use Rattle.watch.proofs.links.link_between.Given as goal

abbrev pub invariant-loop-to : goal.invariant-loop-to
invariant-loop-to g l = (p q : ℕ) → g.B.Board.linked l.board p q ≡ ((bit l.froms p && (ltb q l.to && bit l.tos q)) || g.B.Board.linked l.initial.board p q)
