use Rattle.std.proofs.Common.{ℕ, arith}
use Rattle.std.proofs.lemmas.List.{get_or-replicate}
use Rattle.std.proofs.lemmas.Bool.Decides.{nat_tests}
use Rattle.boards.proofs.BitLaws.{bit_zero}
use Rattle.boards.proofs.bit_board.BitBoardBoard.new.Goals as goal

pub returns : goal.returns
returns c a b = let none = bit_zero b in grind (arith, nat_tests, get_or-replicate {A = ℕ} 32 a 0 0)
