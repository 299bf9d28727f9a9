-- The set of the bays that hold a mark against an access, made of what each such mark adds. Assumes nothing.
use Rattle.std.proofs.Common.{◌≡◌, ℕ, ◌^◌, ◌<◌, Bool, ◌||◌, List, [], ◌∷◌, map, filter, fold, ◌∙◌, arith}
use Rattle.std.proofs.lemmas.Bool.{cond_both}
use Rattle.items.specs.declared.mode.Mode.{Mode}
use Rattle.boards.specs.BaySets.{bit, set_number, in_either}
use Rattle.boards.proofs.BitLaws.{bit_zero, number_below, number_from_bits, number_same}
use Rattle.marks.specs.Holders.{plus_all}
use Rattle.marks.specs.Marks.{MarkMeant, reached}
use Rattle.marks.specs.Against.{is_against, holds_against, linked_by}
use Rattle.marks.proofs.BayLaws.{bit_all}

module _ (overlapping : List ℕ → List ℕ → Bool) (conflicting : Mode → Mode → Bool) (bay : ℕ) (fs : List ℕ) (mode : Mode) {A : Type 0} (meant : A → MarkMeant) where
  abbrev against : A → Bool
  against x = is_against overlapping conflicting fs mode (meant x)

  abbrev joined : ℕ → A → ℕ
  joined s x = plus_all s (reached bay (meant x))

  -- the bays of a set, and those that the marks add to it
  linked_from : (xs : List A) (s : ℕ) → s < 2 ^ 32 → fold joined s (filter against xs) ≡ set_number (λ k. bit s k || holds_against overlapping conflicting bay fs mode (map meant xs) k) 32
  linked_from [] s narrow = number_from_bits _ 32 s narrow (λ k l. grind arith)
  linked_from (x ∷ xs) s narrow =
      cond_both (against x) (x ∷ filter against xs) (filter against xs) (λ l. fold joined s l ≡ set_number (λ k. bit s k || holds_against overlapping conflicting bay fs mode (map meant (x ∷ xs)) k) 32)
      (λ e. linked_from xs (joined s x) (number_below (in_either s (reached bay (meant x))) 32) ∙ number_same _ _ 32 (λ k l. let both = bit_all k l s (reached bay (meant x)) in grind arith))
      (λ e. linked_from xs s narrow ∙ number_same _ _ 32 (λ k l. grind arith))

  pub linked_all : (xs : List A) → fold joined 0 (filter against xs) ≡ linked_by overlapping conflicting bay fs mode (map meant xs)
  linked_all xs = linked_from xs 0 (omega arith) ∙ number_same _ _ 32 (λ k l. let none = bit_zero k in grind arith)
