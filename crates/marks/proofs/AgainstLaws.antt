-- Which bays an access links, by the two relations alone. Assumes nothing.
use Rattle.std.proofs.Common.{◌≡◌, ℕ, ◌<◌, Bool, true, false, not, ◌&&◌, ◌||◌, eqb, List, [], ◌∷◌, Decides, sym, refl, ap, ◌∙◌, ap₂, ⊎_elim, arith}
use Rattle.std.specs.List.{list_any}
use Rattle.std.proofs.lemmas.Bool.{and_from, and_parts, both_ways, lt-ltb, or_cases, or_left, or_right}
use Rattle.items.specs.declared.mode.Mode.{Mode}
use Rattle.boards.specs.BaySets.{bit}
use Rattle.boards.proofs.BitLaws.{bit_number}
use Rattle.marks.specs.Marks.{MarkMeant, is_of, reached}
use Rattle.marks.specs.Holding.{holds_own, holds_inherited}
use Rattle.marks.specs.Against.{is_against, holds_against, linked_by}
use Rattle.marks.proofs.SameLaws.{access_same, access_equal}
use Rattle.marks.proofs.AnyLaws.{any_weaker}
use Rattle.marks.proofs.BayLaws.{bit_reached}

module _ (overlapping : List ℕ → List ℕ → Bool) (conflicting : Mode → Mode → Bool) (bay : ℕ) (fs : List ℕ) (mode : Mode) (k : ℕ) (low : k < 32) where
  -- bay k holds these fields and this mode either way, or, if it is the given bay, as inherited
  abbrev pub holds_there : List MarkMeant → List ℕ → Mode → Bool
  holds_there ms gs other = holds_inherited ms k gs other || (not (eqb k bay) && holds_own ms k gs other)

  -- there is an access that overlaps and conflicts, and bay k holds it so
  abbrev pub Against : List MarkMeant → Type 0
  Against ms = (gs : List ℕ) × (other : Mode) × ((overlapping fs gs && conflicting mode other) ≡ true) × (holds_there ms gs other ≡ true)

  abbrev test : MarkMeant → Bool
  test m = is_against overlapping conflicting fs mode m && bit (reached bay m) k

  held_against : (ms : List MarkMeant) → holds_against overlapping conflicting bay fs mode ms k ≡ true → Against ms
  held_against [] e = absurd (both_ways false refl e)
  held_against (m ∷ ms) e =
      ⊎_elim
      (λ here. let parts = and_parts (is_against overlapping conflicting fs mode m) (bit (reached bay m) k) here in
      (m.fields, m.mode, parts.0, first (is_of m.fields m.mode m) (bit m.inherited k) (not (eqb k bay)) (bit m.own k) (holds_inherited ms k m.fields m.mode) (holds_own ms k m.fields m.mode) (access_same m.fields m.mode) (sym (bit_reached k low bay m) ∙ parts.1)))
      (λ there. let s = held_against ms there in
      (s.0, s.1, s.2, later (is_of s.0 s.1 m && bit m.inherited k) (not (eqb k bay)) (is_of s.0 s.1 m && bit m.own k) (holds_inherited ms k s.0 s.1) (holds_own ms k s.0 s.1) s.3))
      (or_cases (test m) (list_any test ms) e)
    where
      first : (i h n o x y : Bool) → i ≡ true → (h || (n && o)) ≡ true → (((i && h) || x) || (n && ((i && o) || y))) ≡ true
      first i h n o x y e s = grind arith

      later : (h n o x y : Bool) → (x || (n && y)) ≡ true → ((h || x) || (n && (o || y))) ≡ true
      later h n o x y s = grind arith

  against_held : (ms : List MarkMeant) → Against ms → holds_against overlapping conflicting bay fs mode ms k ≡ true
  against_held ms s =
      ⊎_elim
      (any_weaker (λ m. is_of s.0 s.1 m && bit m.inherited k) test (λ m t. at m (bit m.inherited k) t (λ h. or_left _ _ h)) ms)
      (λ t. let parts = and_parts (not (eqb k bay)) (holds_own ms k s.0 s.1) t in
      any_weaker (λ m. is_of s.0 s.1 m && bit m.own k) test (λ m u. at m (bit m.own k) u (λ h. or_right (bit m.inherited k) _ (and_from _ _ parts.0 h))) ms parts.1)
      (or_cases (holds_inherited ms k s.0 s.1) (not (eqb k bay) && holds_own ms k s.0 s.1) s.3)
    where
      at : (m : MarkMeant) (has : Bool) → (is_of s.0 s.1 m && has) ≡ true → (has ≡ true → (bit m.inherited k || (not (eqb k bay) && bit m.own k)) ≡ true) → test m ≡ true
      at m has t h =
          let parts = and_parts (is_of s.0 s.1 m) has t in let equal = access_equal m.fields m.mode s.0 s.1 parts.0 in
          and_from _ _ (ap₂ (λ gs other. overlapping fs gs && conflicting mode other) equal.0 equal.1 ∙ s.2) (bit_reached k low bay m ∙ h parts.1)

  pub linked_decides : (ms : List MarkMeant) → Decides (bit (linked_by overlapping conflicting bay fs mode ms) k) (Against ms)
  linked_decides ms =
      let e : bit (linked_by overlapping conflicting bay fs mode ms) k ≡ holds_against overlapping conflicting bay fs mode ms k = bit_number (holds_against overlapping conflicting bay fs mode ms) 32 k ∙ ap (λ x. x && holds_against overlapping conflicting bay fs mode ms k) (lt-ltb k 32 low) in
      (λ t. held_against ms (sym e ∙ t), λ s. e ∙ against_held ms s)
