-- Loops over the 32 bays that link those of a set, and what a commit leaves of the links. Assumes nothing.
use Rattle.std.proofs.Common.{◌≡◌, ℕ, ◌^◌, ◌<◌, ◌≤◌, Bool, false, not, ◌&&◌, ◌||◌, eqb, ltb, ap, ◌∙◌, ⊎_elim, arith, Ok, Err, Result}
use Rattle.std.proofs.Math.Bool.{or_comm}
use Rattle.std.proofs.lemmas.Bool.{cases_lt, cond-true, lt-ltb}
use Rattle.std.proofs.lemmas.Bool.Decides.{nat_tests}
use Rattle.items.specs.declared.refusal.Refusal.{Refusal}
use Rattle.boards.specs.BaySets.{bit}
use Rattle.boards.specs.Boards.{Links, no_such_bay, if_bay, after_drop, bays_into, bays_out_of}
use Rattle.boards.proofs.BitLaws.{bit_beyond}
use Rattle.boards.proofs.BoardLaws.{bit_into, bit_out}
use Rattle.watch.specs.Steps.{with_links_between, joined_at}

-- all of them: no set has a bay past the last
pub all_linked : (x old : Bool) (set i p : ℕ) → set < 2 ^ 32 → 32 ≤ i → ((x && (ltb p i && bit set p)) || old) ≡ ((x && bit set p) || old)
all_linked x old set i p small past =
    ⊎_elim
    (λ below. grind (arith, nat_tests))
    (λ beyond. let none : bit set p ≡ false = bit_beyond 32 set p small (omega arith) in grind (arith, nat_tests))
    (cases_lt p i)

-- what a board answers about a bay is not refused
pub answered : {X : Type 0} (b : ℕ) (x y : X) (r : Result X Refusal) → b < 32 → r ≡ Ok x → r ≡ if_bay b y → x ≡ y
answered b x y r bay is told = let same = cond-true (ltb b 32) (Ok y) (Err no_such_bay) (lt-ltb b 32 bay) in cc

-- the bays that link to bay b joined with those that it links to, and then bay b dropped
pub joined_links : (links between after : Links) (b froms tos p q : ℕ) → b < 32 → p < 32 → q < 32 → froms ≡ bays_into links b → tos ≡ bays_out_of links b → between p q ≡ with_links_between froms tos links p q → after p q ≡ after_drop between b p q → after p q ≡ joined_at b links p q
joined_links links between after b froms tos p q bay some few into out join dropped =
    let from : bit froms p ≡ links p b = ap (λ s. bit s p) into ∙ bit_into links b p ∙ ap (λ t. t && links p b) (lt-ltb p 32 some) in
    let to : bit tos q ≡ links b q = ap (λ s. bit s q) out ∙ bit_out links b q ∙ ap (λ t. t && links b q) (lt-ltb q 32 few) in
    dropped ∙ ap (λ (f : Links). f p q) (cond-true _ _ _ (lt-ltb b 32 bay))
    ∙ ap (λ t. not (eqb p b || eqb q b) && t)
    (join ∙ ap (λ t. (t && bit tos q) || links p q) from ∙ ap (λ t. (links p b && t) || links p q) to ∙ or_comm (links p b && links b q) (links p q))
