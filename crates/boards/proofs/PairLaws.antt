-- Lists of pairs of bays: what is in them, and that there is room for another. Assumes nothing.
use Rattle.std.specs.Prelude.{◌≡◌, ℕ, ◌+◌, ◌*◌, ◌/◌, ◌%◌, ◌^◌, ◌<◌, Bool, true, false, ◌&&◌, ◌||◌, List, [], ◌∷◌, ◌++◌, length, take, drop, filter, fold, slice_index_or, refl}
use Rattle.std.proofs.Common.{eqb, sym, ap₂, ◌∙◌, arith}
use Rattle.std.proofs.lemmas.Nat.{div-mul-add, mod-mul-add}
use Rattle.std.specs.List.{list_any}
use Rattle.std.proofs.lemmas.List.{at_drop_more}
use Rattle.std.proofs.lemmas.List.Folds.{list_any-append, list_any_more}
use Rattle.std.proofs.lemmas.Bool.{cond_both}
use Rattle.std.proofs.lemmas.Bool.Decides.{nat_tests}
use Rattle.boards.specs.declared.pair.Pair.{Pair}
use Rattle.boards.specs.BaySets.{bit, set_number, with_bay}
use Rattle.boards.specs.Boards.{SameLinks, with_pair, without_pairs_of}
use Rattle.boards.specs.PairLists.{is_pair, listed_links, none_twice, spares}
use Rattle.boards.proofs.BitLaws.{bit_zero, bit_number, number_below, number_from_bits, number_same}
use Rattle.boards.proofs.Counts.{passing, passing_le, passing_none, passing_more}

-- one more pair at the end
module _ (p : Pair) where
  pub listed_push : (ps : List Pair) (a b : ℕ) → listed_links (ps ++ p ∷ []) a b ≡ (is_pair a b p || listed_links ps a b)
  listed_push ps a b = let both = list_any-append (is_pair a b) ps (p ∷ []) in grind arith

  pub once_push : (ps : List Pair) → listed_links ps p.from.number p.to.number ≡ false → none_twice ps ≡ true → none_twice (ps ++ p ∷ []) ≡ true
  once_push [] new once = refl
  once_push (q ∷ ps) new once =
      let rest = once_push ps (grind arith) (grind arith) in let has = listed_push ps q.from.number q.to.number in grind (arith, nat_tests)

-- the first i pairs, and the pair at i
pub listed_more : (ps : List Pair) (i : ℕ) (d : Pair) → i < length ps → (a b : ℕ) → listed_links (take (i + 1) ps) a b ≡ (is_pair a b (slice_index_or ps i d) || listed_links (take i ps) a b)
listed_more ps i d h a b = let more = list_any_more (is_pair a b) ps i d h in grind arith

-- the pair at i, and those after it
pub listed_drop : (ps : List Pair) (i : ℕ) (d : Pair) → i < length ps → (a b : ℕ) → listed_links (drop i ps) a b ≡ (is_pair a b (slice_index_or ps i d) || listed_links (drop (i + 1) ps) a b)
listed_drop ps i d h a b = at_drop_more (list_any (is_pair a b)) ps i d h

-- the pairs that do not name a bay
module _ (bay : ℕ) where
  pub listed_kept : (ps : List Pair) (a b : ℕ) → listed_links (filter (spares bay) ps) a b ≡ without_pairs_of (listed_links ps) bay a b
  listed_kept [] a b = grind arith
  listed_kept (p ∷ ps) a b =
      let rest = listed_kept ps a b in
      cond_both (spares bay p) (p ∷ filter (spares bay) ps) (filter (spares bay) ps)
      (λ qs. listed_links qs a b ≡ without_pairs_of (listed_links (p ∷ ps)) bay a b)
      (λ e. grind (arith, nat_tests))
      (λ e. grind (arith, nat_tests))

  pub once_kept : (ps : List Pair) → none_twice ps ≡ true → none_twice (filter (spares bay) ps) ≡ true
  once_kept [] once = refl
  once_kept (p ∷ ps) once =
      let rest = once_kept ps (grind arith) in let has = listed_kept ps p.from.number p.to.number in
      cond_both (spares bay p) (p ∷ filter (spares bay) ps) (filter (spares bay) ps) (λ qs. none_twice qs ≡ true) (λ e. grind arith) (λ e. rest)

-- each pair of bays has a number below 1,024
abbrev place : Pair → ℕ
place p = p.from.number * 32 + p.to.number

abbrev marked : List Pair → ℕ → Bool
marked ps n = listed_links ps (n / 32) (n % 32)

marked_place : (p : Pair) (ps : List Pair) → marked ps (place p) ≡ listed_links ps p.from.number p.to.number
marked_place p ps = ap₂ (listed_links ps) (div-mul-add p.from.number 32 p.to.number p.to.below) (mod-mul-add p.from.number 32 p.to.number p.to.below)

-- a list has as many pairs as numbers of its pairs
length_listed : (ps : List Pair) → none_twice ps ≡ true → length ps ≡ passing (marked ps) 1024
length_listed [] once = sym (passing_none (marked []) 1024 (λ k. refl))
length_listed (p ∷ ps) once =
    let rest = length_listed ps (grind arith) in
    let f = p.from.below in let t = p.to.below in
    let more = passing_more (marked ps) (marked (p ∷ ps)) (place p) 1024 (omega arith) (marked_place p ps ∙ grind arith) (marked_place p (p ∷ ps) ∙ grind (arith, nat_tests)) (λ k ne. grind (arith, nat_tests)) in
    omega arith

-- there is room for a pair of bays that is not listed
pub room : (p : Pair) (ps : List Pair) → none_twice ps ≡ true → listed_links ps p.from.number p.to.number ≡ false → length ps < 1024
room p ps once new =
    let long : length (p ∷ ps) ≡ passing (marked (p ∷ ps)) 1024 = length_listed (p ∷ ps) (grind (arith, nat_tests)) in
    omega (arith, passing_le (marked (p ∷ ps)) 1024)

-- what becomes of a list when a pair that is not in it is put at its end
pub record Pushed (ps : List Pair) (p : Pair) : Type 0 where
  pub space : length ps < 1024
  pub once : none_twice (ps ++ p ∷ []) ≡ true
  pub links : SameLinks (listed_links (ps ++ p ∷ [])) (with_pair (listed_links ps) p.from.number p.to.number)

pub pushed : (ps : List Pair) (p : Pair) → none_twice ps ≡ true → listed_links ps p.from.number p.to.number ≡ false → Pushed ps p
pushed ps p once new =
    record {
      space = room p ps once new;
      once = once_push p ps new once;
      links = λ a b. listed_push p ps a b ∙ grind (arith, nat_tests);
    }

-- the bays that those pairs name which pass a test, gathered one by one; whether a pair names bay k so is told by `named`
module _ (test : Pair → Bool) (name : Pair → ℕ) (named : ℕ → Pair → Bool) (is : (k : ℕ) (p : Pair) → named k p ≡ (test p && eqb (name p) k)) where
  abbrev gathered : ℕ → Pair → ℕ
  gathered s p = set_number (with_bay s (name p)) 32

  gathered_from : (ps : List Pair) (s : ℕ) → s < 2 ^ 32 → fold gathered s (filter test ps) ≡ set_number (λ k. bit s k || list_any (named k) ps) 32
  gathered_from [] s narrow = number_from_bits _ 32 s narrow (λ k l. grind arith)
  gathered_from (p ∷ ps) s narrow =
      cond_both (test p) (p ∷ filter test ps) (filter test ps) (λ l. fold gathered s l ≡ set_number (λ k. bit s k || list_any (named k) (p ∷ ps)) 32)
      (λ e. gathered_from ps (gathered s p) (number_below (with_bay s (name p)) 32) ∙ number_same _ _ 32 (λ k l. let one = bit_number (with_bay s (name p)) 32 k in let here = is k p in grind (arith, nat_tests)))
      (λ e. gathered_from ps s narrow ∙ number_same _ _ 32 (λ k l. let here = is k p in grind arith))

  pub gathered_all : (ps : List Pair) → fold gathered 0 (filter test ps) ≡ set_number (λ k. list_any (named k) ps) 32
  gathered_all ps = gathered_from ps 0 (omega arith) ∙ number_same _ _ 32 (λ k l. let none = bit_zero k in grind arith)
