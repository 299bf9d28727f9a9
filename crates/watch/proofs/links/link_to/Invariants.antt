use Rattle.std.proofs.Common.{◌≡◌, ℕ, ◌&&◌, ◌||◌, eqb, ltb}
use Rattle.boards.specs.BaySets.{bit}
use Rattle.watch.proofs.links.link_to.Given as goal

abbrev pub invariant-loop-from : goal.invariant-loop-from
invariant-loop-from g l = (p q : ℕ) → g.B.Board.linked l.board p q ≡ ((eqb q l.to && (ltb p l.from && bit l.froms p)) || g.B.Board.linked l.initial.board p q)
