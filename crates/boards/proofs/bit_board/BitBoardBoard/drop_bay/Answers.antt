use Rattle.std.proofs.Common.{arith}
use Rattle.std.proofs.lemmas.Grind.{common_steps}
use Rattle.std.proofs.lemmas.Bool.Decides.{nat_tests}
use Rattle.boards.proofs.BitLaws.{bit_zero}
use Rattle.boards.proofs.bit_board.BitBoardBoard.drop_bay.Goals as goal

pub returns-clause-after : goal.returns-clause-after
returns-clause-after c a b =
    let named = c.in_ok-bay.ensures in let cleared = c.clear_column.ensures a b in let none = bit_zero b in
    grind (arith, nat_tests, common_steps)
