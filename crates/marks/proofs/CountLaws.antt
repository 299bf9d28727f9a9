-- How many marks are held, and which fields and mode. Assumes nothing.
use Rattle.std.proofs.Common.{w32, ◌≡◌, ℕ, zero, suc, ◌+◌, ◌^◌, ◌<◌, ◌≤◌, Bool, true, false, cond, not, ◌&&◌, ◌||◌, eqb, ltb, List, [], ◌∷◌, ◌++◌, length, set, Decides, sym, refl, ◌∙◌, ⊎_elim, arith}
use Rattle.std.specs.List.{list_any}
use Rattle.std.proofs.lemmas.List.Sums.{count_by-le-length, sum_by-cons}
use Rattle.std.specs.Int.{trailing_zeros}
use Rattle.std.proofs.lemmas.Nat.Bits.{bit_at-trailing_zeros}
use Rattle.std.proofs.lemmas.Bool.{eq-eqb, and_parts, both_ways, cases_Bool, cond_both, cond-true, cond-false, not-true, or_cases, or_left, or_right}
use Rattle.std.proofs.lemmas.Bool.Decides.{nat_tests}
use Rattle.items.specs.declared.mode.Mode.{Mode}
use Rattle.boards.specs.BaySets.{bit}
use Rattle.marks.specs.Marks.{MarkMeant, is_vacant, is_of, is_held_of, fresh_mark, joins}
use Rattle.marks.specs.Places.{VacantAt}
use Rattle.marks.specs.Holding.{holds_own, holds_inherited, held_count}
use Rattle.marks.specs.Steps.{first_joined, HoldStep}
use Rattle.marks.specs.Apart.{OnlyBays}
use Rattle.marks.proofs.AnyLaws.{any_weaker}
use Rattle.marks.proofs.HoldsLaws.{vacant_own, vacant_inherited}
use Rattle.marks.proofs.HoldEffects.{hold_cases, joined_held}

-- one mark more
pub count_cons : (m : MarkMeant) (ms : List MarkMeant) → held_count (m ∷ ms) ≡ cond (is_vacant m) (held_count ms) (suc (held_count ms))
count_cons m ms = let sum = sum_by-cons (λ n. cond (not (is_vacant n)) 1 0) m ms in grind arith

-- some mark is vacant exactly when fewer are held than there are
pub count_within : (ms : List MarkMeant) → held_count ms ≤ length ms
count_within = count_by-le-length (λ m. not (is_vacant m))

pub vacant_when_fewer : (ms : List MarkMeant) → list_any is_vacant ms ≡ ltb (held_count ms) (length ms)
vacant_when_fewer [] = refl
vacant_when_fewer (m ∷ ms) =
    let count = count_cons m ms in let rest = vacant_when_fewer ms in let within = count_within ms in
    grind (arith, nat_tests)

-- one mark more at the end
pub count_push : (ms : List MarkMeant) (m : MarkMeant) → held_count (ms ++ m ∷ []) ≡ held_count ms + cond (is_vacant m) 0 1
count_push [] m = let one = count_cons m [] in grind arith
count_push (n ∷ ms) m =
    let more = count_cons n (ms ++ m ∷ []) in let fewer = count_cons n ms in let rest = count_push ms m in grind arith

-- a hold by a bay: one mark more is held where none was held with the fields and mode
module _ (bay : ℕ) (low : bay < 32) (fs : List ℕ) (mode : Mode) where
  count_first : (ms : List MarkMeant) → held_count (first_joined bay fs mode ms) ≡ held_count ms
  count_first [] = refl
  count_first (m ∷ ms) =
      let was = count_cons m ms in let rest = count_first ms in
      cond_both (is_held_of fs mode m) (joins bay m ∷ ms) (m ∷ first_joined bay fs mode ms) (λ l. held_count l ≡ held_count (m ∷ ms))
      (λ e. let now = count_cons (joins bay m) ms in let held = joined_held bay low m in grind arith)
      (λ e. let now = count_cons m (first_joined bay fs mode ms) in grind arith)

  count_set : (ms : List MarkMeant) (p : ℕ) → VacantAt ms p → held_count (set ms p (joins bay (fresh_mark fs mode))) ≡ suc (held_count ms)
  count_set [] p v = absurd (omega (arith, v.0))
  count_set (m ∷ ms) zero v =
      let was = count_cons m ms in let now = count_cons (joins bay (fresh_mark fs mode)) ms in
      let held = joined_held bay low (fresh_mark fs mode) in let vacant = v.1 in grind arith
  count_set (m ∷ ms) (suc p) v =
      let was = count_cons m ms in let now = count_cons m (set ms p (joins bay (fresh_mark fs mode))) in
      let rest = count_set ms p (omega (arith, v.0), v.1) in grind arith

  pub hold_count : (ms after : List MarkMeant) → HoldStep bay fs mode ms true after → held_count after ≡ cond (list_any (is_held_of fs mode) ms) (held_count ms) (suc (held_count ms))
  hold_count ms after h =
      hold_cases bay fs mode ms after (λ l. held_count l ≡ cond (list_any (is_held_of fs mode) ms) (held_count ms) (suc (held_count ms))) true h
      (λ z some. count_first ms ∙ sym (cond-true (list_any (is_held_of fs mode) ms) _ _ some))
      (λ z new p v. count_set ms p v ∙ sym (cond-false (list_any (is_held_of fs mode) ms) _ _ new))
      (λ z. absurd (both_ways true z refl))

-- fields and mode are held exactly when some bay holds them, as own or as inherited
pub some_bay : (s : ℕ) → s < 2 ^ 32 → eqb s 0 ≡ false → (b : ℕ) × (b < 32) × (bit s b ≡ true)
some_bay s narrow ne =
    let some : 0 < s = grind (arith, nat_tests) in let lowest = bit_at-trailing_zeros w32 s some narrow in
    (trailing_zeros w32 s, lowest.0, eq-eqb _ 1 lowest.1)

module _ (gs : List ℕ) (other : Mode) where
  abbrev pub Holder : List MarkMeant → Type 0
  Holder ms = (b : ℕ) × (b < 32) × ((holds_own ms b gs other || holds_inherited ms b gs other) ≡ true)

  held_here : (m : MarkMeant) → (m.own < 2 ^ 32) × (m.inherited < 2 ^ 32) → is_vacant m ≡ false → (b : ℕ) × (b < 32) × ((bit m.own b || bit m.inherited b) ≡ true)
  held_here m narrow e =
      ⊎_elim
      (λ none. let s = some_bay m.inherited narrow.1 (grind arith) in (s.0, s.1, or_right (bit m.own s.0) _ s.2))
      (λ some. let s = some_bay m.own narrow.0 some in (s.0, s.1, or_left _ (bit m.inherited s.0) s.2))
      (cases_Bool (eqb m.own 0))

  held_holder : (ms : List MarkMeant) → OnlyBays ms → list_any (is_held_of gs other) ms ≡ true → Holder ms
  held_holder [] narrow e = absurd (both_ways false refl e)
  held_holder (m ∷ ms) narrow e =
      ⊎_elim
      (λ here. let parts = and_parts (is_of gs other m) (not (is_vacant m)) here in let s = held_here m narrow.0 (not-true (is_vacant m) parts.1) in
      (s.0, s.1, join (is_of gs other m) (bit m.own s.0) (bit m.inherited s.0) (holds_own ms s.0 gs other) (holds_inherited ms s.0 gs other) parts.0 s.2))
      (λ there. let s = held_holder ms narrow.1 there in
      (s.0, s.1, later (is_of gs other m && bit m.own s.0) (is_of gs other m && bit m.inherited s.0) (holds_own ms s.0 gs other) (holds_inherited ms s.0 gs other) s.2))
      (or_cases (is_held_of gs other m) (list_any (is_held_of gs other) ms) e)
    where
      join : (i o h x y : Bool) → i ≡ true → (o || h) ≡ true → (((i && o) || x) || ((i && h) || y)) ≡ true
      join i o h x y e s = grind arith

      later : (o h x y : Bool) → (x || y) ≡ true → ((o || x) || (h || y)) ≡ true
      later o h x y s = grind arith

  holder_held : (ms : List MarkMeant) (b : ℕ) → (holds_own ms b gs other || holds_inherited ms b gs other) ≡ true → list_any (is_held_of gs other) ms ≡ true
  holder_held ms b e =
      ⊎_elim
      (any_weaker (λ m. is_of gs other m && bit m.own b) (is_held_of gs other) (λ m t. let none = vacant_own m b in grind arith) ms)
      (any_weaker (λ m. is_of gs other m && bit m.inherited b) (is_held_of gs other) (λ m t. let none = vacant_inherited m b in grind arith) ms)
      (or_cases (holds_own ms b gs other) (holds_inherited ms b gs other) e)

  pub held_decides : (ms : List MarkMeant) → OnlyBays ms → Decides (list_any (is_held_of gs other) ms) (Holder ms)
  held_decides ms narrow = (held_holder ms narrow, λ s. holder_held ms s.0 s.2)
