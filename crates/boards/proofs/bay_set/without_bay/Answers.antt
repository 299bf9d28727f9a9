use Rattle.std.proofs.Common.{◌≡◌, ℕ, ◌∙◌, arith, w32}
use lib.Bits.{bit_and}
use Rattle.std.specs.Int.{bit_not}
use Rattle.std.proofs.lemmas.Nat.{and_le_l}
use Rattle.boards.specs.BaySets.{bit, without_bay}
use Rattle.boards.proofs.BitLaws.{bit_clear_word, number_from_bits}
use Rattle.boards.proofs.bay_set.without_bay.Goals as goal

pub returns : goal.returns
returns c =
    let members : (k : ℕ) → bit (bit_and c.args.bays (bit_not w32 c.only_bay.result)) k ≡ without_bay c.args.bays c.args.bay k =
    λ k. let one = c.only_bay.ensures k in bit_clear_word c.args.bays c.only_bay.result k (omega arith) (omega arith) ∙ grind arith in
    record {
      members = members;
      number = number_from_bits _ 32 _ (omega (arith, and_le_l c.args.bays (bit_not w32 c.only_bay.result))) (λ k l. members k);
    }
