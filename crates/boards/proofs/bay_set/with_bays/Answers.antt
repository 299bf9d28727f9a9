use Rattle.std.proofs.Common.{◌∙◌, arith}
use lib.Bits.{bit_or}
use Rattle.std.proofs.lemmas.Nat.{or_lt}
use Rattle.boards.proofs.BitLaws.{bit_or_lem, number_from_bits}
use Rattle.boards.proofs.bay_set.with_bays.Goals as goal

pub returns : goal.returns
returns c =
    record {
      members = λ k. bit_or_lem c.args.bays c.args.more k ∙ grind arith;
      number = number_from_bits _ 32 (bit_or c.args.bays c.args.more) (or_lt 32 c.args.bays c.args.more (omega arith) (omega arith)) (λ k l. bit_or_lem c.args.bays c.args.more k ∙ grind arith);
    }
