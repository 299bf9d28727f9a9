-- What a board's answers and sets say, bay by bay. Assumes nothing.
use Rattle.std.proofs.Common.{◌≡◌, ℕ, ◌^◌, ◌<◌, Bool, true, ◌&&◌, Ok, Result, ap, ◌∙◌, arith}
use Rattle.items.specs.declared.refusal.Refusal.{Refusal}
use Rattle.std.proofs.lemmas.Bool.Decides.{nat_tests}
use Rattle.boards.specs.BaySets.{bit, set_number, is_bay}
use Rattle.boards.specs.Boards.{Links, if_bay, bays_into, bays_out_of}
use Rattle.boards.proofs.BitLaws.{bit_number, number_from_bits}

-- what passed the check is a bay
pub bay_from_ok : (bay : ℕ) → ◌≡◌ {A = Result Unit Refusal} (Ok tt) (if_bay bay tt) → bay < 32
bay_from_ok bay e = grind (arith, nat_tests)

-- the answer for a bay that was let in, by the bits of the number
pub bays_answered : (f : ℕ → Bool) (bay s : ℕ) → is_bay bay ≡ true → s < 2 ^ 32 → ((k : ℕ) → k < 32 → bit s k ≡ f k) → ◌≡◌ {A = Result ℕ Refusal} (Ok s) (if_bay bay (set_number f 32))
bays_answered f bay s let_in fits same = ap Ok (number_from_bits f 32 s fits same) ∙ grind (arith, nat_tests)

-- the bits of the two numbers of a bay
pub bit_into : (links : Links) (b k : ℕ) → bit (bays_into links b) k ≡ (is_bay k && links k b)
bit_into links b k = bit_number (λ a. links a b) 32 k

pub bit_out : (links : Links) (a k : ℕ) → bit (bays_out_of links a) k ≡ (is_bay k && links a k)
bit_out links a k = bit_number (links a) 32 k
