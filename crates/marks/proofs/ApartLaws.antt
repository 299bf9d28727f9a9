-- Held marks stay told apart, and only bays hold them, after every call. Assumes nothing.
use Rattle.std.proofs.Common.{◌≡◌, ℕ, zero, suc, ◌^◌, ◌<◌, Bool, true, false, not, ◌&&◌, ◌||◌, List, [], ◌∷◌, map, set, sym, refl, ap, ap₂, ⊎_elim, arith}
use Rattle.std.specs.List.{AllZip, list_any}
use Rattle.std.proofs.ByRecursion.{All-map, All-set, All-weaker}
use Rattle.std.proofs.lemmas.Bool.{and_from, and_parts, and_right, cases_Bool, cond_both, or_cases, or_parts, or_right}
use Rattle.std.proofs.lemmas.Bool.Decides.{nat_tests}
use Rattle.items.specs.declared.mode.Mode.{Mode}
use Rattle.boards.specs.BaySets.{with_bay, without_bay, in_either}
use Rattle.boards.proofs.BitLaws.{bit_zero, number_below, number_from_bits}
use Rattle.marks.specs.Holders.{minus_bay, plus_all}
use Rattle.marks.specs.Marks.{MarkMeant, same_access, is_vacant, is_of, is_held_of, holds_either, fresh_mark, vacated, joins, inherits, leaves}
use Rattle.marks.specs.Places.{VacantAt}
use Rattle.marks.specs.Steps.{first_joined, HoldStep, all_inherited, all_left, all_handed_on}
use Rattle.marks.specs.Apart.{told_apart, OnlyBays}
use Rattle.marks.proofs.SameLaws.{access_comm}
use Rattle.marks.proofs.AnyLaws.{any_set}
use Rattle.marks.proofs.HoldsLaws.{vacant_own, vacant_inherited}
use Rattle.marks.proofs.HoldEffects.{hold_cases}

-- a mark before and after: its fields and mode are the same, and it is vacant if it was
pub record Kept (m n : MarkMeant) : Type 0 where
  pub fields : n.fields ≡ m.fields
  pub mode : n.mode ≡ m.mode
  pub vacant : is_vacant m ≡ true → is_vacant n ≡ true

kept_itself : (m : MarkMeant) → Kept m m
kept_itself m = record { fields = refl; mode = refl; vacant = λ e. e }

kept_map : (f : MarkMeant → MarkMeant) → ((m : MarkMeant) → Kept m (f m)) → (ms : List MarkMeant) → AllZip Kept ms (map f ms)
kept_map f k [] = tt
kept_map f k (m ∷ ms) = (k m, kept_map f k ms)

kept_all : (ms : List MarkMeant) → AllZip Kept ms ms
kept_all [] = tt
kept_all (m ∷ ms) = (kept_itself m, kept_all ms)

held_not_vacant : (gs : List ℕ) (other : Mode) (m : MarkMeant) → is_vacant m ≡ true → is_held_of gs other m ≡ false
held_not_vacant gs other m e = and_right (is_of gs other m) (not (is_vacant m)) (ap not e)

-- what is held after was held before
held_before : (gs : List ℕ) (other : Mode) (m n : MarkMeant) → Kept m n → is_held_of gs other n ≡ true → is_held_of gs other m ≡ true
held_before gs other m n k e =
    let same : is_of gs other n ≡ is_of gs other m = ap₂ (λ xs mode. same_access xs mode gs other) k.fields k.mode in
    ⊎_elim (λ t. absurd (let v = k.vacant t in grind arith)) (λ f. grind arith) (cases_Bool (is_vacant m))

any_before : (gs : List ℕ) (other : Mode) (ms ns : List MarkMeant) → AllZip Kept ms ns → list_any (is_held_of gs other) ms ≡ false → list_any (is_held_of gs other) ns ≡ false
any_before gs other [] [] ks e = refl
any_before gs other [] (n ∷ ns) ks e = absurd ks
any_before gs other (m ∷ ms) [] ks e = absurd ks
any_before gs other (m ∷ ms) (n ∷ ns) ks e =
    let rest = any_before gs other ms ns ks.1 (grind arith) in let here = held_before gs other m n ks.0 in
    ⊎_elim (λ t. absurd (let was = here t in grind arith)) (λ f. grind arith) (cases_Bool (is_held_of gs other n))

pub kept_apart : (ms ns : List MarkMeant) → AllZip Kept ms ns → told_apart ms ≡ true → told_apart ns ≡ true
kept_apart [] [] ks e = refl
kept_apart [] (n ∷ ns) ks e = absurd ks
kept_apart (m ∷ ms) [] ks e = absurd ks
kept_apart (m ∷ ms) (n ∷ ns) ks e =
    let k = ks.0 in let rest = kept_apart ms ns ks.1 (grind arith) in
    let same : list_any (is_held_of n.fields n.mode) ns ≡ list_any (is_held_of m.fields m.mode) ns = ap₂ (λ xs mode. list_any (is_held_of xs mode) ns) k.fields k.mode in
    ⊎_elim (λ t. let v = k.vacant t in grind arith)
    (λ t. let none = any_before m.fields m.mode ms ns ks.1 (grind arith) in grind arith)
    (or_cases (is_vacant m) (not (list_any (is_held_of m.fields m.mode) ms)) (grind arith))

-- the sets of a vacant mark stay empty
minus_none : (bay : ℕ) → minus_bay 0 bay ≡ 0
minus_none bay = sym (number_from_bits (without_bay 0 bay) 32 0 (omega arith) (λ k l. let none = bit_zero k in grind arith))

pub vacated_kept : (m : MarkMeant) → Kept m (vacated m)
vacated_kept m = record { fields = refl; mode = refl; vacant = λ e. refl }

pub inherits_kept : (bay takers : ℕ) (m : MarkMeant) → Kept m (inherits bay takers m)
inherits_kept bay takers m =
    record {
      fields = refl;
      mode = refl;
      vacant = λ e. let own = vacant_own m bay e in let inherited = vacant_inherited m bay e in let neither : holds_either bay m ≡ false = grind arith in rw neither e;
    }

pub leaves_kept : (bay : ℕ) (m : MarkMeant) → Kept m (leaves bay m)
leaves_kept bay m =
    record {
      fields = refl;
      mode = refl;
      vacant = λ e. let own : m.own ≡ 0 = grind (arith, nat_tests) in let inherited : m.inherited ≡ 0 = grind (arith, nat_tests) in let none = minus_none bay in rw (own, inherited) (grind (arith, nat_tests));
    }

pub opened_apart : (ms : List MarkMeant) → told_apart (map vacated ms) ≡ true
opened_apart [] = refl
opened_apart (m ∷ ms) = opened_apart ms

pub inherit_apart : (bay takers : ℕ) (ms : List MarkMeant) → told_apart ms ≡ true → told_apart (all_inherited bay takers ms) ≡ true
inherit_apart bay takers ms = kept_apart ms (all_inherited bay takers ms) (kept_map (inherits bay takers) (inherits_kept bay takers) ms)

pub leave_apart : (bay : ℕ) (ms : List MarkMeant) → told_apart ms ≡ true → told_apart (all_left bay ms) ≡ true
leave_apart bay ms = kept_apart ms (all_left bay ms) (kept_map (leaves bay) (leaves_kept bay) ms)

pub hand_on_apart : (bay takers : ℕ) (ms : List MarkMeant) → told_apart ms ≡ true → told_apart (all_handed_on bay takers ms) ≡ true
hand_on_apart bay takers ms e = leave_apart bay (all_inherited bay takers ms) (inherit_apart bay takers ms e)

module _ (bay : ℕ) (fs : List ℕ) (mode : Mode) where
  kept_first : (ms : List MarkMeant) → AllZip Kept ms (first_joined bay fs mode ms)
  kept_first [] = tt
  kept_first (m ∷ ms) =
      cond_both (is_held_of fs mode m) (joins bay m ∷ ms) (m ∷ first_joined bay fs mode ms) (λ l. AllZip Kept (m ∷ ms) l)
      (λ e. (record { fields = refl; mode = refl; vacant = λ v. absurd (grind arith) }, kept_all ms))
      (λ e. (kept_itself m, kept_first ms))

  still_apart : (vacant same turned fresh before after : Bool) → (vacant || not before) ≡ true → (same && not vacant) ≡ false → same ≡ turned → after ≡ ((turned && fresh) || before) → (vacant || not after) ≡ true
  still_apart vacant same turned fresh before after e new t a = grind arith

  -- a mark that was vacant is given fields and mode that none is held with
  apart_set : (ms : List MarkMeant) (p : ℕ) → VacantAt ms p → list_any (is_held_of fs mode) ms ≡ false → told_apart ms ≡ true → told_apart (set ms p (joins bay (fresh_mark fs mode))) ≡ true
  apart_set [] p v new e = absurd (omega (arith, v.0))
  apart_set (m ∷ ms) zero v new e =
      let parts = and_parts (is_vacant m || not (list_any (is_held_of m.fields m.mode) ms)) (told_apart ms) e in
      let none = (or_parts (is_held_of fs mode m) (list_any (is_held_of fs mode) ms) new).1 in
      and_from _ _ (or_right (is_vacant (joins bay (fresh_mark fs mode))) _ (ap not none)) parts.1
  apart_set (m ∷ ms) (suc p) v new e =
      let own = is_held_of m.fields m.mode in let fresh = joins bay (fresh_mark fs mode) in
      let parts = and_parts (is_vacant m || not (list_any own ms)) (told_apart ms) e in
      let none = or_parts (is_held_of fs mode m) (list_any (is_held_of fs mode) ms) new in
      let after = any_set own ms p fresh is_vacant (omega (arith, v.0), v.1) (λ n t. held_not_vacant m.fields m.mode n t) in
      and_from _ _
      (still_apart (is_vacant m) (is_of fs mode m) (is_of m.fields m.mode fresh) (not (is_vacant fresh)) (list_any own ms) (list_any own (set ms p fresh)) parts.0 none.0 (access_comm m.fields m.mode fs mode) after)
      (apart_set ms p (omega (arith, v.0), v.1) none.1 parts.1)

  pub hold_apart : (ms after : List MarkMeant) (was-done : Bool) → HoldStep bay fs mode ms was-done after → told_apart ms ≡ true → told_apart after ≡ true
  hold_apart ms after was-done h e =
      hold_cases bay fs mode ms after (λ l. told_apart l ≡ true) was-done h
      (λ z some. kept_apart ms (first_joined bay fs mode ms) (kept_first ms) e)
      (λ z new p v. apart_set ms p v new e)
      (λ z new full. e)

-- only bays hold marks
abbrev Narrow : MarkMeant → Type 0
Narrow m = (m.own < 2 ^ 32) × (m.inherited < 2 ^ 32)

pub opened_bays : (ms : List MarkMeant) → OnlyBays (map vacated ms)
opened_bays [] = tt
opened_bays (m ∷ ms) = ((omega arith, omega arith), opened_bays ms)

narrow_map : (f : MarkMeant → MarkMeant) → ((m : MarkMeant) → Narrow m → Narrow (f m)) → (ms : List MarkMeant) → OnlyBays ms → OnlyBays (map f ms)
narrow_map f h ms e = All-map Narrow f ms (All-weaker Narrow (λ m. Narrow (f m)) h ms e)

pub inherit_bays : (bay takers : ℕ) (ms : List MarkMeant) → OnlyBays ms → OnlyBays (all_inherited bay takers ms)
inherit_bays bay takers =
    narrow_map (inherits bay takers)
    (λ m e. (e.0, cond_both (holds_either bay m) (plus_all m.inherited takers) m.inherited (λ s. s < 2 ^ 32) (λ t. number_below (in_either m.inherited takers) 32) (λ f. e.1)))

pub leave_bays : (bay : ℕ) (ms : List MarkMeant) → OnlyBays ms → OnlyBays (all_left bay ms)
leave_bays bay =
    narrow_map (leaves bay) (λ m e. (number_below (without_bay m.own bay) 32, number_below (without_bay m.inherited bay) 32))

pub hand_on_bays : (bay takers : ℕ) (ms : List MarkMeant) → OnlyBays ms → OnlyBays (all_handed_on bay takers ms)
hand_on_bays bay takers ms e = leave_bays bay (all_inherited bay takers ms) (inherit_bays bay takers ms e)

module _ (bay : ℕ) (fs : List ℕ) (mode : Mode) where
  joined_bays : (m : MarkMeant) → m.inherited < 2 ^ 32 → Narrow (joins bay m)
  joined_bays m e = (number_below (with_bay m.own bay) 32, e)

  first_bays : (ms : List MarkMeant) → OnlyBays ms → OnlyBays (first_joined bay fs mode ms)
  first_bays [] e = tt
  first_bays (m ∷ ms) e =
      cond_both (is_held_of fs mode m) (joins bay m ∷ ms) (m ∷ first_joined bay fs mode ms) OnlyBays
      (λ t. (joined_bays m e.0.1, e.1))
      (λ f. (e.0, first_bays ms e.1))

  pub hold_bays : (ms after : List MarkMeant) (was-done : Bool) → HoldStep bay fs mode ms was-done after → OnlyBays ms → OnlyBays after
  hold_bays ms after was-done h e =
      hold_cases bay fs mode ms after OnlyBays was-done h
      (λ z some. first_bays ms e)
      (λ z new p v. All-set Narrow ms p (joins bay (fresh_mark fs mode)) (joined_bays (fresh_mark fs mode) (omega arith)) e)
      (λ z new full. e)
