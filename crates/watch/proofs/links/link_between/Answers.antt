use Rattle.std.proofs.Common.{◌∙◌}
use Rattle.boards.specs.BaySets.{bit}
use Rattle.watch.proofs.LinkLoops.{all_linked}
use Rattle.watch.proofs.links.link_between.Goals as goal

pub returns : goal.returns
returns g c = λ p q. c.loop-to.invariant p q ∙ all_linked (bit c.args.froms p) (g.B.Board.linked c.args.board.now p q) c.args.tos c.loop-to.to q c.ranges.tos.fits c.loop-to-test.false
