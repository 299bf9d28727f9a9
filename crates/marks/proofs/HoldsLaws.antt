-- What each call does to the two relations, held as own and held as inherited, at every bay. Assumes nothing.
use Rattle.std.proofs.Common.{◌≡◌, ℕ, ◌<◌, Bool, true, false, not, ◌&&◌, ◌||◌, eqb, List, map, refl, ap, ◌∙◌, arith}
use Rattle.std.specs.List.{list_any}
use Rattle.std.proofs.lemmas.Bool.Decides.{nat_tests}
use Rattle.items.specs.declared.mode.Mode.{Mode}
use Rattle.boards.specs.BaySets.{bit}
use Rattle.boards.proofs.BitLaws.{bit_zero}
use Rattle.marks.specs.Holders.{minus_bay}
use Rattle.marks.specs.Marks.{MarkMeant, is_vacant, is_of, vacated, inherits, leaves}
use Rattle.marks.specs.Holding.{holds_own, holds_inherited}
use Rattle.marks.specs.Steps.{all_inherited, all_left, all_handed_on}
use Rattle.marks.proofs.AnyLaws.{any_and, any_map, any_none, any_or, any_same}
use Rattle.marks.proofs.BayLaws.{bit_minus, bit_inherits}

-- a vacant mark is held by none
pub vacant_own : (m : MarkMeant) (b : ℕ) → is_vacant m ≡ true → bit m.own b ≡ false
vacant_own m b e = let none : m.own ≡ 0 = grind (arith, nat_tests) in ap (λ s. bit s b) none ∙ bit_zero b

pub vacant_inherited : (m : MarkMeant) (b : ℕ) → is_vacant m ≡ true → bit m.inherited b ≡ false
vacant_inherited m b e = let none : m.inherited ≡ 0 = grind (arith, nat_tests) in ap (λ s. bit s b) none ∙ bit_zero b

-- a bay, and the fields and the mode of which it is asked whether it holds them
module _ (b : ℕ) (gs : List ℕ) (other : Mode) where
  abbrev here : (MarkMeant → ℕ) → MarkMeant → Bool
  here held m = is_of gs other m && bit (held m) b

  -- of the bays that hold as own and those that hold as inherited alike, none is left after opening
  opened_none : (held : MarkMeant → ℕ) → ((m : MarkMeant) → held (vacated m) ≡ 0) → (ms : List MarkMeant) → list_any (here held) (map vacated ms) ≡ false
  opened_none held e ms =
      any_map (here held) vacated ms
      ∙ any_none (λ m. here held (vacated m)) (λ m. let gone = ap (λ s. bit s b) (e m) ∙ bit_zero b in grind arith) ms

  pub opened_own : (ms : List MarkMeant) → holds_own (map vacated ms) b gs other ≡ false
  opened_own = opened_none (λ m. m.own) (λ m. refl)

  pub opened_inherited : (ms : List MarkMeant) → holds_inherited (map vacated ms) b gs other ≡ false
  opened_inherited = opened_none (λ m. m.inherited) (λ m. refl)

  module _ (low : b < 32) where
    pub inherit_own : (bay takers : ℕ) (ms : List MarkMeant) → holds_own (all_inherited bay takers ms) b gs other ≡ holds_own ms b gs other
    inherit_own bay takers ms = any_map (here (λ m. m.own)) (inherits bay takers) ms

    pub inherit_inherited : (bay takers : ℕ) (ms : List MarkMeant) → holds_inherited (all_inherited bay takers ms) b gs other ≡ (holds_inherited ms b gs other || (bit takers b && (holds_own ms bay gs other || holds_inherited ms bay gs other)))
    inherit_inherited bay takers ms =
        let own : MarkMeant → Bool = λ m. is_of gs other m && bit m.own bay in
        let inherited : MarkMeant → Bool = λ m. is_of gs other m && bit m.inherited bay in
        let either : MarkMeant → Bool = λ m. own m || inherited m in
        any_map (here (λ m. m.inherited)) (inherits bay takers) ms
        ∙ any_same (λ m. here (λ n. n.inherited) (inherits bay takers m)) (λ m. here (λ n. n.inherited) m || (bit takers b && either m)) (λ m. let now = bit_inherits b low bay takers m in grind arith) ms
        ∙ any_or (here (λ m. m.inherited)) (λ m. bit takers b && either m) ms
        ∙ ap (λ x. holds_inherited ms b gs other || x) (any_and either (bit takers b) ms ∙ ap (λ x. bit takers b && x) (any_or own inherited ms))

    leave_same : (held : MarkMeant → ℕ) (bay : ℕ) → ((m : MarkMeant) → held (leaves bay m) ≡ minus_bay (held m) bay) → (ms : List MarkMeant) → list_any (here held) (all_left bay ms) ≡ (not (eqb b bay) && list_any (here held) ms)
    leave_same held bay e ms =
        any_map (here held) (leaves bay) ms
        ∙ any_same (λ m. here held (leaves bay m)) (λ m. not (eqb b bay) && here held m) (λ m. let now = ap (λ s. bit s b) (e m) ∙ bit_minus b low (held m) bay in grind arith) ms
        ∙ any_and (here held) (not (eqb b bay)) ms

    pub leave_own : (bay : ℕ) (ms : List MarkMeant) → holds_own (all_left bay ms) b gs other ≡ (not (eqb b bay) && holds_own ms b gs other)
    leave_own bay = leave_same (λ m. m.own) bay (λ m. refl)

    pub leave_inherited : (bay : ℕ) (ms : List MarkMeant) → holds_inherited (all_left bay ms) b gs other ≡ (not (eqb b bay) && holds_inherited ms b gs other)
    leave_inherited bay = leave_same (λ m. m.inherited) bay (λ m. refl)

    pub hand_on_own : (bay takers : ℕ) (ms : List MarkMeant) → holds_own (all_handed_on bay takers ms) b gs other ≡ (not (eqb b bay) && holds_own ms b gs other)
    hand_on_own bay takers ms = leave_own bay (all_inherited bay takers ms) ∙ ap (λ x. not (eqb b bay) && x) (inherit_own bay takers ms)

    pub hand_on_inherited : (bay takers : ℕ) (ms : List MarkMeant) → holds_inherited (all_handed_on bay takers ms) b gs other ≡ (not (eqb b bay) && (holds_inherited ms b gs other || (bit takers b && (holds_own ms bay gs other || holds_inherited ms bay gs other))))
    hand_on_inherited bay takers ms =
        leave_inherited bay (all_inherited bay takers ms) ∙ ap (λ x. not (eqb b bay) && x) (inherit_inherited bay takers ms)
