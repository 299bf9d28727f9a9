use Rattle.std.proofs.Common.{ap, ◌∙◌, arith}
use Rattle.std.proofs.lemmas.Nat.{one_shl}
use Rattle.std.proofs.lemmas.Bool.Decides.{nat_tests}
use Rattle.boards.specs.BaySets.{bit}
use Rattle.boards.proofs.BitLaws.{bit_power}
use Rattle.boards.proofs.bay_set.only_bay.Goals as goal

pub returns-then-is_bay : goal.returns-then-is_bay
returns-then-is_bay c k =
    ap (λ n. bit n k) (one_shl c.args.bay 32 (grind (arith, nat_tests))) ∙ bit_power c.args.bay k ∙ grind (arith, nat_tests)
