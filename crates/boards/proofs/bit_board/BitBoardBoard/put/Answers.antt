use Rattle.std.proofs.Common.{arith}
use Rattle.std.proofs.lemmas.Grind.{common_steps}
use Rattle.std.proofs.lemmas.Bool.Decides.{nat_tests}
use Rattle.boards.proofs.bit_board.BitBoardBoard.put.Goals as goal

pub returns-clause-after : goal.returns-clause-after
returns-clause-after c a b =
    let named = c.in_ok-pair.ensures in let added = c.with_bay.ensures.members b in
    grind (arith, nat_tests, common_steps)
