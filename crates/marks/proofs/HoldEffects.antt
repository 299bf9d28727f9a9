-- What holding does to the two relations, and to which fields and mode are held. Assumes nothing.
use Rattle.std.proofs.Common.{◌≡◌, ℕ, ◌<◌, Bool, true, false, cond, ◌&&◌, ◌||◌, eqb, ◌⊎◌, List, [], ◌∷◌, length, set, sym, refl, ap, ◌∙◌, inl, inr, arith}
use Rattle.std.specs.List.{list_any}
use Rattle.std.proofs.lemmas.List.{length-set}
use Rattle.std.proofs.lemmas.Bool.{and_parts, both_ways, cases_eq, cond_both, eq-eqb}
use Rattle.std.proofs.lemmas.Bool.Decides.{nat_tests}
use Rattle.items.specs.declared.mode.Mode.{Mode}
use Rattle.boards.specs.BaySets.{bit}
use Rattle.boards.proofs.BitLaws.{bit_zero}
use Rattle.marks.specs.Holders.{plus_bay}
use Rattle.marks.specs.Marks.{MarkMeant, same_access, is_vacant, is_of, is_held_of, fresh_mark, joins}
use Rattle.marks.specs.Places.{VacantAt}
use Rattle.marks.specs.Holding.{holds_own, holds_inherited}
use Rattle.marks.specs.Steps.{first_joined, AfterHold, HoldStep}
use Rattle.marks.proofs.SameLaws.{access_like}
use Rattle.marks.proofs.AnyLaws.{any_set}
use Rattle.marks.proofs.BayLaws.{bit_plus}
use Rattle.marks.proofs.HoldsLaws.{vacant_own, vacant_inherited}

-- a mark that a bay has joined is held
pub joined_held : (bay : ℕ) → bay < 32 → (m : MarkMeant) → is_vacant (joins bay m) ≡ false
joined_held bay low m = at (cases_eq (plus_bay m.own bay) 0)
  where
    has : bit (plus_bay m.own bay) bay ≡ true
    has = bit_plus bay low m.own bay ∙ ap (λ x. x || bit m.own bay) (eq-eqb bay bay refl)

    at : (plus_bay m.own bay ≡ 0) ⊎ (plus_bay m.own bay ≡ 0 → ⊥) → is_vacant (joins bay m) ≡ false
    at (inl e) = absurd (both_ways (bit 0 bay) (bit_zero bay) (sym (ap (λ s. bit s bay) e) ∙ has))
    at (inr ne) = grind (arith, nat_tests)

module _ (bay : ℕ) (fs : List ℕ) (mode : Mode) where
  any_first : (test : MarkMeant → Bool) (more : Bool) → ((m : MarkMeant) → is_held_of fs mode m ≡ true → test (joins bay m) ≡ (more || test m)) → (ms : List MarkMeant) → list_any (is_held_of fs mode) ms ≡ true → list_any test (first_joined bay fs mode ms) ≡ (more || list_any test ms)
  any_first test more joined [] some = absurd (grind arith)
  any_first test more joined (m ∷ ms) some =
      cond_both (is_held_of fs mode m) (joins bay m ∷ ms) (m ∷ first_joined bay fs mode ms) (λ l. list_any test l ≡ (more || list_any test (m ∷ ms)))
      (λ e. let here = joined m e in grind arith)
      (λ e. let rest = any_first test more joined ms (grind arith) in grind arith)

  length_first : (ms : List MarkMeant) → length (first_joined bay fs mode ms) ≡ length ms
  length_first [] = refl
  length_first (m ∷ ms) =
      let rest = length_first ms in
      cond_both (is_held_of fs mode m) (joins bay m ∷ ms) (m ∷ first_joined bay fs mode ms) (λ l. length l ≡ length (m ∷ ms)) (λ e. refl) (λ e. grind arith)

  module _ (ms after : List MarkMeant) where
    -- the three ways in which a hold can go
    pub hold_cases : (P : List MarkMeant → Type 0) (was-done : Bool) → HoldStep bay fs mode ms was-done after → (was-done ≡ true → list_any (is_held_of fs mode) ms ≡ true → P (first_joined bay fs mode ms)) → (was-done ≡ true → list_any (is_held_of fs mode) ms ≡ false → (p : ℕ) → VacantAt ms p → P (set ms p (joins bay (fresh_mark fs mode)))) → (was-done ≡ false → list_any (is_held_of fs mode) ms ≡ false → list_any is_vacant ms ≡ false → P ms) → P after
    hold_cases P was-done h held vacant nowhere =
        at (list_any (is_held_of fs mode) ms) (list_any is_vacant ms) refl refl h.answer h.marks
      where
        at : (x y : Bool) → list_any (is_held_of fs mode) ms ≡ x → list_any is_vacant ms ≡ y → was-done ≡ cond x true y → AfterHold x y bay fs mode ms after → P after
        at true y e f a s = rw s (held a e)
        at false true e f a s = rw s.2 (vacant a e s.0 s.1)
        at false false e f a s = rw s (nowhere a e f)

    pub hold_refused : HoldStep bay fs mode ms false after → (after ≡ ms) × (list_any (is_held_of fs mode) ms ≡ false) × (list_any is_vacant ms ≡ false)
    hold_refused h =
        hold_cases (λ l. (l ≡ ms) × (list_any (is_held_of fs mode) ms ≡ false) × (list_any is_vacant ms ≡ false)) false h (λ z. absurd (both_ways false refl z)) (λ z. absurd (both_ways false refl z)) (λ z e f. (refl, e, f))

    pub hold_length : (was-done : Bool) → HoldStep bay fs mode ms was-done after → length after ≡ length ms
    hold_length was-done h =
        hold_cases (λ l. length l ≡ length ms) was-done h (λ z e. length_first ms) (λ z e p v. length-set ms p _) (λ z e f. refl)

    -- a test that a mark passes anew only when it is joined
    hold-any : (test : MarkMeant → Bool) (more : Bool) → ((m : MarkMeant) → is_held_of fs mode m ≡ true → test (joins bay m) ≡ (more || test m)) → test (joins bay (fresh_mark fs mode)) ≡ more → ((m : MarkMeant) → is_vacant m ≡ true → test m ≡ false) → HoldStep bay fs mode ms true after → list_any test after ≡ (more || list_any test ms)
    hold-any test more joined fresh none h =
        hold_cases (λ l. list_any test l ≡ (more || list_any test ms)) true h (λ z e. any_first test more joined ms e)
        (λ z e p v. any_set test ms p (joins bay (fresh_mark fs mode)) is_vacant v none ∙ ap (λ x. x || list_any test ms) fresh)
        (λ z. absurd (both_ways true z refl))

    -- after a hold that was done
    module _ (gs : List ℕ) (other : Mode) (h : HoldStep bay fs mode ms true after) where
      like : (m : MarkMeant) → is_held_of fs mode m ≡ true → is_of gs other m ≡ same_access fs mode gs other
      like m e = access_like m.fields m.mode fs mode (and_parts _ _ e).0 gs other

      pub hold_own : (b : ℕ) → b < 32 → holds_own after b gs other ≡ ((eqb b bay && same_access fs mode gs other) || holds_own ms b gs other)
      hold_own b low =
          hold-any (λ m. is_of gs other m && bit m.own b) (eqb b bay && same_access fs mode gs other)
          (λ m e. let here = bit_plus b low m.own bay in let same = like m e in grind arith)
          (let here = bit_plus b low 0 bay in let none = bit_zero b in grind arith)
          (λ m e. let none = vacant_own m b e in grind arith)
          h

      pub hold_inherited : (b : ℕ) → holds_inherited after b gs other ≡ holds_inherited ms b gs other
      hold_inherited b =
          hold-any (λ m. is_of gs other m && bit m.inherited b) false
          (λ m e. refl)
          (let none = bit_zero b in grind arith)
          (λ m e. let none = vacant_inherited m b e in grind arith)
          h

      pub hold_held : bay < 32 → list_any (is_held_of gs other) after ≡ (same_access fs mode gs other || list_any (is_held_of gs other) ms)
      hold_held low =
          hold-any (is_held_of gs other) (same_access fs mode gs other)
          (λ m e. let held = joined_held bay low m in let same = like m e in grind arith)
          (let held = joined_held bay low (fresh_mark fs mode) in grind arith)
          (λ m e. grind arith)
          h
