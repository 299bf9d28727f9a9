use Rattle.std.proofs.Common.{eqb, ◌∙◌}
use Rattle.watch.proofs.LinkLoops.{all_linked}
use Rattle.watch.proofs.links.link_to.Goals as goal

pub returns : goal.returns
returns g c = λ p q. c.loop-from.invariant p q ∙ all_linked (eqb q c.args.to) (g.B.Board.linked c.args.board.now p q) c.args.froms c.loop-from.from p c.ranges.froms.fits c.loop-from-test.false
