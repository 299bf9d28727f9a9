-- Where held marks are told apart, they are as many as the accesses that are held, listed once each. Assumes nothing.
use Rattle.std.proofs.Common.{◌≡◌, ℕ, suc, Bool, true, false, not, ◌&&◌, ◌||◌, ◌⊎◌, List, [], ◌∷◌, filter, length, sym, refl, ap, ◌∙◌, ap₂, inl, inr, arith}
use Rattle.std.specs.List.{list_any}
use Rattle.std.proofs.lemmas.Bool.{and_from, and_parts, both_ways, cases_Bool, cond_both, cond-true, not-true, or_parts}
use Rattle.std.proofs.lemmas.Map.Views.{any-filter_same}
use Rattle.items.specs.declared.mode.Mode.{Mode}
use Rattle.marks.specs.Marks.{MarkMeant, same_access, is_vacant, is_of, is_held_of}
use Rattle.marks.specs.Holding.{held_count}
use Rattle.marks.specs.Apart.{told_apart, is_listed, listed_once}
use Rattle.marks.proofs.CountLaws.{count_cons}
use Rattle.marks.proofs.SameLaws.{access_same, access_equal, access_like, access_comm}

-- a list of accesses without one access
module _ (fs : List ℕ) (mode : Mode) where
  abbrev without : List (List ℕ × Mode) → List (List ℕ × Mode)
  without keys = filter (λ a. not (same_access fs mode a.0 a.1)) keys

  -- that access is listed no more; the others are as they were
  listed_without : (keys : List (List ℕ × Mode)) (gs : List ℕ) (other : Mode) → is_listed (without keys) gs other ≡ (not (same_access fs mode gs other) && is_listed keys gs other)
  listed_without keys gs other =
      any-filter_same (λ a. same_access a.0 a.1 gs other) (λ a. not (same_access fs mode a.0 a.1)) (not (same_access fs mode gs other))
      (λ a e. ap not (access_comm fs mode a.0 a.1 ∙ access_like a.0 a.1 gs other e fs mode ∙ access_comm gs other fs mode))
      keys

  once_without : (keys : List (List ℕ × Mode)) → listed_once keys ≡ true → listed_once (without keys) ≡ true
  once_without [] once = refl
  once_without (a ∷ rest) once =
      let parts = and_parts (not (is_listed rest a.0 a.1)) (listed_once rest) once in
      cond_both (not (same_access fs mode a.0 a.1)) (a ∷ without rest) (without rest) (λ l. listed_once l ≡ true)
      (λ e. and_from _ _ (fewer (same_access fs mode a.0 a.1) (is_listed rest a.0 a.1) (is_listed (without rest) a.0 a.1) (listed_without rest a.0 a.1) parts.0) (once_without rest parts.1))
      (λ e. once_without rest parts.1)
    where
      fewer : (s l w : Bool) → w ≡ (not s && l) → not l ≡ true → not w ≡ true
      fewer s l w e n = grind arith

  none_gone : (keys : List (List ℕ × Mode)) → is_listed keys fs mode ≡ false → length (without keys) ≡ length keys
  none_gone [] e = refl
  none_gone (a ∷ rest) e =
      let parts = or_parts (same_access a.0 a.1 fs mode) (is_listed rest fs mode) e in
      ap length (cond-true (not (same_access fs mode a.0 a.1)) _ _ (ap not (access_comm fs mode a.0 a.1 ∙ parts.0)))
      ∙ ap suc (none_gone rest parts.1)

  length_without : (keys : List (List ℕ × Mode)) → listed_once keys ≡ true → is_listed keys fs mode ≡ true → suc (length (without keys)) ≡ length keys
  length_without [] once e = absurd (both_ways false refl e)
  length_without (a ∷ rest) once e =
      let parts = and_parts (not (is_listed rest a.0 a.1)) (listed_once rest) once in
      cond_both (not (same_access fs mode a.0 a.1)) (a ∷ without rest) (without rest) (λ l. suc (length l) ≡ length (a ∷ rest))
      (λ s. ap suc (length_without rest parts.1 (other-one (same_access a.0 a.1 fs mode) (is_listed rest fs mode) (access_comm a.0 a.1 fs mode ∙ not-true _ s) e)))
      (λ s. let equal = access_equal fs mode a.0 a.1 (was (same_access fs mode a.0 a.1) s) in
      ap suc (none_gone rest (ap₂ (is_listed rest) equal.0 equal.1 ∙ not-true (is_listed rest a.0 a.1) parts.0)))
    where
      other-one : (h l : Bool) → h ≡ false → (h || l) ≡ true → l ≡ true
      other-one h l n s = grind arith

      was : (h : Bool) → not h ≡ false → h ≡ true
      was h e = grind arith

-- no list but the empty one lists nothing
none_listed : (keys : List (List ℕ × Mode)) → ((gs : List ℕ) (other : Mode) → is_listed keys gs other ≡ false) → length keys ≡ 0
none_listed [] e = refl
none_listed (a ∷ rest) e =
    absurd (both_ways (is_listed (a ∷ rest) a.0 a.1) (e a.0 a.1) (ap (λ x. x || is_listed rest a.0 a.1) (access_same a.0 a.1)))

-- the list has each held access, and no other
abbrev pub Lists : List (List ℕ × Mode) → List MarkMeant → Type 0
Lists keys ms = (gs : List ℕ) (other : Mode) → is_listed keys gs other ≡ list_any (is_held_of gs other) ms

-- a list that lists each held access once is as long as there are held marks
pub listed_count : (ms : List MarkMeant) (keys : List (List ℕ × Mode)) → told_apart ms ≡ true → listed_once keys ≡ true → Lists keys ms → length keys ≡ held_count ms
listed_count [] keys apart once same = none_listed keys same
listed_count (m ∷ ms) keys apart once same = at (λ fewer. listed_count ms fewer (and_parts (is_vacant m || not (list_any (is_held_of m.fields m.mode) ms)) (told_apart ms) apart).1) (cases_Bool (is_vacant m))
  where
    now-or-later : (is_vacant m || not (list_any (is_held_of m.fields m.mode) ms)) ≡ true
    now-or-later = (and_parts (is_vacant m || not (list_any (is_held_of m.fields m.mode) ms)) (told_apart ms) apart).0

    vacant : (i v l a : Bool) → v ≡ true → l ≡ ((i && not v) || a) → l ≡ a
    vacant i v l a e s = grind arith

    held : (i v l a : Bool) → v ≡ false → l ≡ ((i && not v) || a) → (i ≡ true → a ≡ false) → (not i && l) ≡ a
    held true v l a e s n = sym (n refl)
    held false v l a e s n = grind arith

    none-later : is_vacant m ≡ false → (gs : List ℕ) (other : Mode) → is_of gs other m ≡ true → list_any (is_held_of gs other) ms ≡ false
    none-later e gs other i =
        let equal = access_equal m.fields m.mode gs other i in
        sym (ap₂ (λ xs mode. list_any (is_held_of xs mode) ms) equal.0 equal.1) ∙ alone (is_vacant m) (list_any (is_held_of m.fields m.mode) ms) e now-or-later
      where
        alone : (v a : Bool) → v ≡ false → (v || not a) ≡ true → a ≡ false
        alone v a e s = grind arith

    at : ((fewer : List (List ℕ × Mode)) → listed_once fewer ≡ true → Lists fewer ms → length fewer ≡ held_count ms) → (is_vacant m ≡ true) ⊎ (is_vacant m ≡ false) → length keys ≡ held_count (m ∷ ms)
    at rest (inl e) =
        let count = count_cons m ms in
        rest keys once (λ gs other. vacant (is_of gs other m) (is_vacant m) (is_listed keys gs other) (list_any (is_held_of gs other) ms) e (same gs other))
        ∙ grind arith
    at rest (inr e) =
        let count = count_cons m ms in
        let here : is_listed keys m.fields m.mode ≡ true = same m.fields m.mode ∙ first (is_of m.fields m.mode m) (is_vacant m) (list_any (is_held_of m.fields m.mode) ms) (access_same m.fields m.mode) e in
        sym (length_without m.fields m.mode keys once here)
        ∙ ap suc
        (rest (without m.fields m.mode keys) (once_without m.fields m.mode keys once)
        (λ gs other. listed_without m.fields m.mode keys gs other ∙ held (is_of gs other m) (is_vacant m) (is_listed keys gs other) (list_any (is_held_of gs other) ms) e (same gs other) (none-later e gs other)))
        ∙ grind arith
      where
        first : (i v a : Bool) → i ≡ true → v ≡ false → ((i && not v) || a) ≡ true
        first i v a t f = grind arith
