use Rattle.std.proofs.Common.{arith}
use Rattle.std.proofs.lemmas.Grind.{common_steps}
use Rattle.std.proofs.lemmas.List.{get_or_past}
use Rattle.std.proofs.lemmas.Bool.Decides.{nat_tests}
use Rattle.boards.proofs.BitLaws.{bit_zero}
use Rattle.boards.proofs.bit_board.clear_column.Goals as goal

pub loop-row-preserved : goal.loop-row-preserved
loop-row-preserved c a k =
    let before = c.loop-row.invariant a k in let cleared = c.without_bay.ensures.members k in
    grind (arith, nat_tests, common_steps)

pub returns : goal.returns
returns c a k =
    let before = c.loop-row.invariant a k in let past = get_or_past c.args.rows.now a 0 in
    let none = bit_zero k in grind (arith, nat_tests)
