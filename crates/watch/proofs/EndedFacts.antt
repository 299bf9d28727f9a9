-- What the end of the transaction of bay b leaves of what is said by open transactions. Assumes nothing.
use Rattle.std.proofs.Common.{◌≡◌, ℕ, suc, ◌<◌, Bool, true, cond, not, ◌&&◌, ◌||◌, eqb, ◌⊎◌, ◌↔◌, sym, ◌∙◌, subst, subst₂}
use Rattle.serial.specs.Lists.{Every}
use Rattle.serial.specs.Accesses.{Transaction}
use Rattle.serial.proofs.ListFacts.{every_map}
use Rattle.watch.specs.Histories.{History, is_open, ended, open_transaction, accesses}
use Rattle.watch.specs.Accounts.{Numbered}
use Rattle.watch.proofs.HistoryFacts.{still_open, apart_from, same_number, numbered_ended}

module _ (h : History) (b : ℕ) where
  -- The transaction of a bay, which is the next one where it is bay b.
  abbrev now_open : ℕ → Transaction
  now_open k = record { bay = k; number = cond (eqb k b) (suc (ended h k)) (ended h k) }

  -- What a bay has exactly when it is open and its transaction has P.
  pub held_past : (P : Transaction → Type 0) (k : ℕ) (now old : Bool) → now ≡ (not (eqb k b) && old) →
      (old ≡ true) ↔ ((is_open h k ≡ true) × P (open_transaction h k)) →
      (now ≡ true) ↔ (((not (eqb k b) && is_open h k) ≡ true) × P (now_open k))
  held_past P k now old e was = (
    λ l.
        let there = (still_open k b _).0 (sym e ∙ l) in let r = was.0 there.1 in
        ((still_open k b _).1 (there.0, r.0), subst P (sym (same_number k b (ended h k) there.0)) r.1),
    λ r.
        let o = (still_open k b _).0 r.0 in
        e ∙ (still_open k b _).1 (o.0, was.1 (o.1, subst P (same_number k b (ended h k) o.0) r.1)),
  )

  -- What two bays have exactly when both are open and their transactions have P.
  pub linked_past : (P : Transaction → Transaction → Type 0) (p q : ℕ) (now old : Bool) → now ≡ (not (eqb p b || eqb q b) && old) →
      (old ≡ true) ↔ ((is_open h p ≡ true) × (is_open h q ≡ true) × P (open_transaction h p) (open_transaction h q)) →
      (now ≡ true) ↔ (((not (eqb p b) && is_open h p) ≡ true) × ((not (eqb q b) && is_open h q) ≡ true) × P (now_open p) (now_open q))
  linked_past P p q now old e was = (
    λ l.
        let there = (apart_from p q b old).0 (sym e ∙ l) in let r = was.0 there.2 in (
          (still_open p b _).1 (there.0, r.0),
          (still_open q b _).1 (there.1, r.1),
          subst₂ P (sym (same_number p b (ended h p) there.0)) (sym (same_number q b (ended h q) there.1)) r.2,
        ),
    λ r.
        let op = (still_open p b _).0 r.0 in let oq = (still_open q b _).0 r.1 in
        e ∙ (apart_from p q b old).1 (op.0, oq.0, was.1 (op.1, oq.1, subst₂ P (same_number p b (ended h p) op.0) (same_number q b (ended h q) oq.0) r.2)),
  )

  -- Every access stays numbered.
  pub numbered_past : Every (Numbered h) (accesses h) →
      Every (λ x. (x.transaction.number < (now_open x.transaction.bay).number) ⊎ ((x.transaction.number ≡ (now_open x.transaction.bay).number) × ((not (eqb x.transaction.bay b) && is_open h x.transaction.bay) ≡ true))) (accesses h)
  numbered_past numbered =
      every_map _ _ (λ x. numbered_ended (eqb x.transaction.bay b) x.transaction.number (ended h x.transaction.bay) (is_open h x.transaction.bay)) (accesses h) numbered
