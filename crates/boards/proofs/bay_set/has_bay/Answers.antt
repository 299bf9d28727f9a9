use Rattle.std.proofs.Common.{◌∙◌, sym, arith}
use Rattle.std.proofs.lemmas.Bool.Decides.{nat_tests}
use Rattle.boards.proofs.BitLaws.{bit_beyond}
use Rattle.boards.proofs.bay_set.has_bay.Goals as goal

pub returns-else-is_bay : goal.returns-else-is_bay
returns-else-is_bay c = c.if-is_bay.false ∙ sym (bit_beyond 32 c.args.bays c.args.bay (omega arith) (grind (arith, nat_tests)))
