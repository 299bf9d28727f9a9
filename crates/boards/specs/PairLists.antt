-- Sets of links as a list of pairs. Assumes nothing.
use Rattle.std.specs.Prelude.{◌≡◌, ℕ, ◌<◌, Bool, true, not, ◌&&◌, ◌||◌, List, [], ◌∷◌, ◌==◌}
use Rattle.std.specs.List.{list_any}
use Rattle.std.proofs.Common.{⊎_elim, arith}
use Rattle.std.proofs.lemmas.Bool.{or_cases}
use Rattle.std.proofs.lemmas.Bool.Decides.{nat_tests}
use Rattle.boards.specs.declared.pair.Pair.{Pair}
use Rattle.boards.specs.Boards.{Links}

-- whether a pair is of these two bays
abbrev pub is_pair : ℕ → ℕ → Pair → Bool
is_pair a b p = p.from.number == a && p.to.number == b

-- whether a pair names a bay
abbrev pub names_bay : ℕ → Pair → Bool
names_bay bay p = p.from.number == bay || p.to.number == bay

-- whether a pair does not name a bay
abbrev pub spares : ℕ → Pair → Bool
spares bay p = not (names_bay bay p)

-- a bay links to another where their pair is in the list, wherever it stands
abbrev pub listed_links : List Pair → Links
listed_links ps a b = list_any (is_pair a b) ps

-- whether no pair is in the list twice
abbrev pub none_twice : List Pair → Bool
none_twice [] = true
none_twice (p ∷ ps) = not (listed_links ps p.from.number p.to.number) && none_twice ps

-- only bays are linked by a list
pub listed_bays : (ps : List Pair) (a b : ℕ) → listed_links ps a b ≡ true → (a < 32) × (b < 32)
listed_bays [] a b e = (grind arith, grind arith)
listed_bays (p ∷ ps) a b e =
    ⊎_elim (λ here. let f = p.from.below in let t = p.to.below in (grind (arith, nat_tests), grind (arith, nat_tests))) (listed_bays ps a b) (or_cases (is_pair a b p) (listed_links ps a b) e)
