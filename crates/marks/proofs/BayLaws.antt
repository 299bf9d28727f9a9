-- The sets of bays that hold one mark, bay by bay, before and after each change of the mark. Assumes nothing.
use Rattle.std.proofs.Common.{◌≡◌, ℕ, ◌<◌, not, ◌&&◌, ◌||◌, eqb, ap, ◌∙◌, arith}
use Rattle.std.proofs.lemmas.Bool.{cond_both}
use Rattle.std.proofs.lemmas.Bool.Decides.{nat_tests}
use Rattle.boards.specs.BaySets.{bit, in_either, with_bay, without_bay}
use Rattle.boards.proofs.BitLaws.{bit_number}
use Rattle.marks.specs.Holders.{plus_bay, minus_bay, plus_all}
use Rattle.marks.specs.Marks.{MarkMeant, holds_either, inherits, reached}

module _ (b : ℕ) (low : b < 32) where
  pub bit_plus : (s bay : ℕ) → bit (plus_bay s bay) b ≡ (eqb b bay || bit s b)
  bit_plus s bay = bit_number (with_bay s bay) 32 b ∙ grind (arith, nat_tests)

  pub bit_minus : (s bay : ℕ) → bit (minus_bay s bay) b ≡ (not (eqb b bay) && bit s b)
  bit_minus s bay = bit_number (without_bay s bay) 32 b ∙ grind (arith, nat_tests)

  pub bit_all : (s t : ℕ) → bit (plus_all s t) b ≡ (bit s b || bit t b)
  bit_all s t = bit_number (in_either s t) 32 b ∙ grind (arith, nat_tests)

  pub bit_inherits : (bay takers : ℕ) (m : MarkMeant) → bit (inherits bay takers m).inherited b ≡ (bit m.inherited b || (bit takers b && holds_either bay m))
  bit_inherits bay takers m =
      cond_both (holds_either bay m) (plus_all m.inherited takers) m.inherited
      (λ s. bit s b ≡ (bit m.inherited b || (bit takers b && holds_either bay m)))
      (λ e. bit_all m.inherited takers ∙ grind arith)
      (λ e. grind arith)

  pub bit_reached : (bay : ℕ) (m : MarkMeant) → bit (reached bay m) b ≡ (bit m.inherited b || (not (eqb b bay) && bit m.own b))
  bit_reached bay m =
      bit_all m.inherited (minus_bay m.own bay) ∙ ap (λ x. bit m.inherited b || x) (bit_minus m.own bay)
