-- What follows of transactions, accesses and paths from any history. Assumes nothing.
use Rattle.std.proofs.Common.{◌≡◌, ℕ, suc, ◌<◌, Bool, true, false, cond, not, ◌&&◌, ◌||◌, eqb, ◌⊎◌, ◌↔◌, List, [], ◌∷◌, ◌++◌, refl, ap, subst, inl, inr, arith}
use Rattle.std.proofs.lemmas.Bool.{and_from, and_parts, both_ways, cond-false, eq-eqb, eqb-false, eqb-true, ne_eqb, not-true, or_from, or_parts}
use Rattle.std.proofs.lemmas.Bool.Decides.{nat_tests}
use Rattle.items.specs.declared.mode.Mode.{Mode}
use Rattle.serial.specs.Lists.{Some, Every}
use Rattle.serial.specs.Accesses.{Transaction}
use Rattle.serial.proofs.ListFacts.{pair_earlier, pair_later, some_every}
use Rattle.serial.proofs.PathFacts.{path_start, path_end}
use Rattle.watch.specs.Histories.{History, Access, made_by, is_open, is_commit, is_abort, effect, ended, open_transaction, same_transaction, is_committed, accesses}
use Rattle.watch.specs.Accounts.{Numbered, Path}

pub transaction_equal : (t u : Transaction) → same_transaction t u ≡ true → t ≡ u
transaction_equal t u e =
    let parts = and_parts (eqb t.bay u.bay) (eqb t.number u.number) e in
    let bays = eqb-true t.bay u.bay parts.0 in
    let numbers = eqb-true t.number u.number parts.1 in
    λ i. record { bay = bays i; number = numbers i }

pub transaction_same : (t u : Transaction) → t ≡ u → same_transaction t u ≡ true
transaction_same t u e = and_from _ _ (eq-eqb _ _ (ap (λ v. v.bay) e)) (eq-eqb _ _ (ap (λ v. v.number) e))

-- A committed transaction has ended.
ended_more : (c a old : Bool) (f : ℕ → ℕ) (b n x : ℕ) → (old ≡ true → n < f b) → ((c && (eqb b x && eqb n (f x))) || old) ≡ true →
    n < cond ((c || a) && eqb b x) (suc (f b)) (f b)
ended_more c a old f b n x before e = grind (arith, nat_tests)

pub committed_ended : (h : History) (t : Transaction) → is_committed h t ≡ true → t.number < ended h t.bay
committed_ended [] t e = absurd (both_ways false refl e)
committed_ended (x ∷ h) t e =
    ended_more (is_commit (effect x)) (is_abort (effect x)) (is_committed h t) (ended h) t.bay t.number x.0.bay (committed_ended h t) e

-- The open transaction of a bay is not committed.
pub open_uncommitted : (h : History) (b : ℕ) → is_committed h (open_transaction h b) ≡ true → ⊥
open_uncommitted h b e = let below = committed_ended h (open_transaction h b) e in omega arith

-- Where a bay is idle, the next transaction there has made no access.
pub idle_unmade : (h : History) (b : ℕ) → Every (Numbered h) (accesses h) → is_open h b ≡ false →
    Some (λ x. made_by x ≡ open_transaction h b) (accesses h) → ⊥
idle_unmade h b numbered idle made = at (some_every _ _ (accesses h) made numbered)
  where
    at : (x : Access) × (made_by x ≡ open_transaction h b) × Numbered h x → ⊥
    at (x, e, n) = here (subst (λ t. (t.number < ended h t.bay) ⊎ ((t.number ≡ ended h t.bay) × (is_open h t.bay ≡ true))) e n)
      where
        here : (ended h b < ended h b) ⊎ ((ended h b ≡ ended h b) × (is_open h b ≡ true)) → ⊥
        here (inl l) = omega arith
        here (inr p) = both_ways (is_open h b) idle p.1

module _ (overlapping : List ℕ → List ℕ → Bool) (conflicting : Mode → Mode → Bool) where
  -- Both ends of a path have made accesses.
  pub path_from : (h : History) (s t : Transaction) → Path overlapping conflicting h s t → Some (λ x. made_by x ≡ s) (accesses h)
  path_from h s t p =
      path_start (λ u. Some (λ x. made_by x ≡ u) (accesses h)) (λ u v l. pair_earlier _ _ (λ x y r. r.0) (accesses h) l) p

  pub path_to : (h : History) (s t : Transaction) → Path overlapping conflicting h s t → Some (λ x. made_by x ≡ t) (accesses h)
  path_to h s t p =
      path_end (λ u. Some (λ x. made_by x ≡ u) (accesses h)) (λ u v l. pair_later _ _ (λ x y r. r.1) (accesses h) l) p

-- Where the transaction of bay b has ended, another bay is open as it was, and its transaction is the same.
pub still_open : (k b : ℕ) (o : Bool) → (not (eqb k b) && o) ≡ true ↔ ((k ≡ b → ⊥) × (o ≡ true))
still_open k b o = (
  λ e. let parts = and_parts (not (eqb k b)) o e in (eqb-false k b (not-true (eqb k b) parts.0), parts.1),
  λ (ne, e). and_from _ _ (ap not (ne_eqb k b ne)) e,
)

-- The links without those of bay b.
pub apart_from : (p q b : ℕ) (l : Bool) → (not (eqb p b || eqb q b) && l) ≡ true ↔ ((p ≡ b → ⊥) × (q ≡ b → ⊥) × (l ≡ true))
apart_from p q b l = (
  λ e.
      let parts = and_parts (not (eqb p b || eqb q b)) l e in
      let neither = or_parts (eqb p b) (eqb q b) (not-true _ parts.0) in
      (eqb-false p b neither.0, eqb-false q b neither.1, parts.1),
  λ (np, nq, e). and_from _ _ (ap not (or_from _ _ (ne_eqb p b np) (ne_eqb q b nq))) e,
)

pub same_number : (k b n : ℕ) → (k ≡ b → ⊥) →
    ◌≡◌ {A = Transaction} (record { bay = k; number = cond (eqb k b) (suc n) n }) (record { bay = k; number = n })
same_number k b n ne = ap (λ m. record { bay = k; number = m }) (cond-false (eqb k b) (suc n) n (ne_eqb k b ne))

-- An access stays numbered when a transaction ends, in its bay or in another.
pub numbered_ended : (here : Bool) (n e : ℕ) (o : Bool) → (n < e) ⊎ ((n ≡ e) × (o ≡ true)) →
    (n < cond here (suc e) e) ⊎ ((n ≡ cond here (suc e) e) × ((not here && o) ≡ true))
numbered_ended true n e o (inl l) = inl (omega arith)
numbered_ended true n e o (inr p) = let same = p.0 in inl (omega arith)
numbered_ended false n e o (inl l) = inl l
numbered_ended false n e o (inr p) = inr p

pub numbered_begun : (here : Bool) (n e : ℕ) (o : Bool) → (n < e) ⊎ ((n ≡ e) × (o ≡ true)) →
    (n < e) ⊎ ((n ≡ e) × ((here || o) ≡ true))
numbered_begun true n e o (inl l) = inl l
numbered_begun true n e o (inr p) = inr (p.0, refl)
numbered_begun false n e o (inl l) = inl l
numbered_begun false n e o (inr p) = inr p

pub every_push : {A : Type 0} (P : A → Type 0) (xs : List A) (y : A) → Every P xs → P y → Every P (xs ++ (y ∷ []))
every_push P [] y h p = (p, tt)
every_push P (x ∷ xs) y h p = (h.0, every_push P xs y h.1 p)
