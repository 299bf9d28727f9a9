-- Sets of links, each an ordered pair of bays, and what a board answers. Assumes nothing.
use Rattle.std.specs.Prelude.{◌≡◌, ℕ, Bool, false, cond, not, ◌&&◌, ◌||◌, Ok, Err, Result, ◌==◌}
use Rattle.items.specs.declared.refusal.Reason.TheVariants.{NoSuchBay}
use Rattle.items.specs.declared.refusal.Layer.TheVariants.{Board}
use Rattle.items.specs.declared.refusal.Refusal.{Refusal}
use Rattle.boards.specs.BaySets.{is_bay, set_number}

-- a set of pairs of bays, by whether the first of a pair links to the second
abbrev pub Links : Type 0
Links = ℕ → ℕ → Bool

-- two sets have the same pairs
abbrev pub SameLinks : Links → Links → Type 0
SameLinks s t = (a b : ℕ) → s a b ≡ t a b

-- no bay links to any
abbrev pub no_links : Links
no_links a b = false

-- the set with one more pair
abbrev pub with_pair : Links → ℕ → ℕ → Links
with_pair links from to a b = (a == from && b == to) || links a b

-- the set without the pairs that lead into a bay
abbrev pub without_into : Links → ℕ → Links
without_into links bay a b = not (b == bay) && links a b

-- the set without the pairs that name a bay
abbrev pub without_pairs_of : Links → ℕ → Links
without_pairs_of links bay a b = not (a == bay || b == bay) && links a b

-- the set after a pair is put: with it if both are bays, else as it was
abbrev pub after_put : Links → ℕ → ℕ → Links
after_put links from to = cond (is_bay from && is_bay to) (with_pair links from to) links

-- the set after a bay is dropped: without its pairs if it is a bay, else as it was
abbrev pub after_drop : Links → ℕ → Links
after_drop links bay = cond (is_bay bay) (without_pairs_of links bay) links

-- the bays that link to a bay, as a number in which bay k counts 2^k
abbrev pub bays_into : Links → ℕ → ℕ
bays_into links b = set_number (λ a. links a b) 32

-- the bays that a bay links to, as a number in which bay k counts 2^k
abbrev pub bays_out_of : Links → ℕ → ℕ
bays_out_of links a = set_number (λ b. links a b) 32

-- the refusal of a number above 31 for a bay
abbrev pub no_such_bay : Refusal
no_such_bay = record { reason = NoSuchBay; layer = Board; entry = 0 }

-- an answer, or the refusal where a number is no bay
abbrev pub if_bay : {X : Type 0} → ℕ → X → Result X Refusal
if_bay bay x = cond (is_bay bay) (Ok x) (Err no_such_bay)

-- an answer, or the refusal where either number is no bay
abbrev pub if_bays : {X : Type 0} → ℕ → ℕ → X → Result X Refusal
if_bays from to x = cond (is_bay from && is_bay to) (Ok x) (Err no_such_bay)
