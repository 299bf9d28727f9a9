use Rattle.std.proofs.Common.{arith, rules}
use Rattle.std.proofs.lemmas.Bool.Decides.{nat_tests}
use Rattle.boards.proofs.BoardLaws.{bays_answered}
use Rattle.boards.proofs.bit_board.BitBoardBoard.links_out.Goals as goal

pub returns-clause-answer : goal.returns-clause-answer
returns-clause-answer c =
    let named = c.in_ok-bay.ensures in
    bays_answered _ c.args.bay _ named.0 (search rules) (λ k l. grind (arith, nat_tests))
