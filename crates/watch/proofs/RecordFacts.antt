-- The records of the bays after each effect. Assumes nothing.
use Rattle.std.proofs.Common.{◌≡◌, ℕ, suc, ◌<◌, min, Bool, true, false, cond, not, ◌&&◌, ◌||◌, eqb, ◌⊎◌, List, length, set, sym, refl, ap, ◌∙◌, inl, inr, arith}
use Rattle.std.proofs.lemmas.List.{get_or-set_same, get_or-set_other, length-set}
use Rattle.std.proofs.lemmas.Bool.{cases_eq, cond-true, cond-false, eq-eqb, ne_eqb}
use Rattle.watch.specs.declared.bay_record.BayRecord.{BayRecord}
use Rattle.watch.specs.Histories.{Effect, Nothing, Begins, Accesses, Commits, Aborts, is_begin, is_commit, is_abort, is_end}
use Rattle.watch.specs.States.{fresh_record, record_at}
use Rattle.watch.specs.Steps.{counted, record_after, records_after}
use Rattle.watch.specs.Accounts.{state_when}

-- The record of each bay, where that of bay b is replaced.
record_set : (records : List BayRecord) (b k : ℕ) (r : BayRecord) → b < length records →
    record_at (set records b r) k ≡ cond (eqb k b) r (record_at records k)
record_set records b k r room = at (cases_eq k b)
  where
    at : (k ≡ b) ⊎ (k ≡ b → ⊥) → record_at (set records b r) k ≡ cond (eqb k b) r (record_at records k)
    at (inl e) =
        ap (record_at (set records b r)) e ∙ get_or-set_same records b r fresh_record room ∙ sym (cond-true (eqb k b) r (record_at records k) (eq-eqb k b e))
    at (inr ne) = get_or-set_other records b k r fresh_record ne ∙ sym (cond-false (eqb k b) r (record_at records k) (ne_eqb k b ne))

record_stays : (records : List BayRecord) (b k : ℕ) → record_at records k ≡ cond (eqb k b) (record_at records b) (record_at records k)
record_stays records b k = at (cases_eq k b)
  where
    at : (k ≡ b) ⊎ (k ≡ b → ⊥) → record_at records k ≡ cond (eqb k b) (record_at records b) (record_at records k)
    at (inl e) = ap (record_at records) e ∙ sym (cond-true (eqb k b) _ _ (eq-eqb k b e))
    at (inr ne) = sym (cond-false (eqb k b) _ _ (ne_eqb k b ne))

-- The record of each bay after an effect in bay b.
pub record_after_lem : (e : Effect) (records : List BayRecord) (b k : ℕ) → b < length records →
    record_at (records_after e b records) k ≡ cond (eqb k b) (record_after e (record_at records b)) (record_at records k)
record_after_lem Nothing records b k room = record_stays records b k
record_after_lem Begins records b k room = record_set records b k _ room
record_after_lem (Accesses fs m) records b k room = record_stays records b k
record_after_lem (Commits v) records b k room = record_set records b k _ room
record_after_lem Aborts records b k room = record_set records b k _ room

pub length_after : (e : Effect) (records : List BayRecord) (b : ℕ) → length (records_after e b records) ≡ length records
length_after Nothing records b = refl
length_after Begins records b = length-set records b _
length_after (Accesses fs m) records b = refl
length_after (Commits v) records b = length-set records b _
length_after Aborts records b = length-set records b _

-- The three parts of a record, at its own bay and at another.
pub state_after : (e : Effect) (here : Bool) (r r' : BayRecord) (o : Bool) → (here ≡ true → r ≡ r') → r'.state ≡ state_when o →
    (cond here (record_after e r) r').state ≡ state_when ((is_begin e && here) || (not (is_end e && here) && o))
state_after Nothing true r r' o same before = ap (λ x. x.state) (same refl) ∙ before
state_after Nothing false r r' o same before = before
state_after Begins true r r' o same before = refl
state_after Begins false r r' o same before = before
state_after (Accesses fs m) true r r' o same before = ap (λ x. x.state) (same refl) ∙ before
state_after (Accesses fs m) false r r' o same before = before
state_after (Commits v) true r r' o same before = refl
state_after (Commits v) false r r' o same before = before
state_after Aborts true r r' o same before = refl
state_after Aborts false r r' o same before = before

counted_more : (n m : ℕ) → n ≡ min m 4294967295 → counted n ≡ min (suc m) 4294967295
counted_more n m e = omega arith

pub commits_after : (e : Effect) (here : Bool) (r r' : BayRecord) (n : ℕ) → (here ≡ true → r ≡ r') → r'.commits ≡ min n 4294967295 →
    (cond here (record_after e r) r').commits ≡ min (cond (is_commit e && here) (suc n) n) 4294967295
commits_after Nothing true r r' n same before = ap (λ x. x.commits) (same refl) ∙ before
commits_after Nothing false r r' n same before = before
commits_after Begins true r r' n same before = ap (λ x. x.commits) (same refl) ∙ before
commits_after Begins false r r' n same before = before
commits_after (Accesses fs m) true r r' n same before = ap (λ x. x.commits) (same refl) ∙ before
commits_after (Accesses fs m) false r r' n same before = before
commits_after (Commits v) true r r' n same before = counted_more r.commits n (ap (λ x. x.commits) (same refl) ∙ before)
commits_after (Commits v) false r r' n same before = before
commits_after Aborts true r r' n same before = ap (λ x. x.commits) (same refl) ∙ before
commits_after Aborts false r r' n same before = before

pub aborts_after : (e : Effect) (here : Bool) (r r' : BayRecord) (n : ℕ) → (here ≡ true → r ≡ r') → r'.aborts ≡ min n 4294967295 →
    (cond here (record_after e r) r').aborts ≡ min (cond (is_abort e && here) (suc n) n) 4294967295
aborts_after Nothing true r r' n same before = ap (λ x. x.aborts) (same refl) ∙ before
aborts_after Nothing false r r' n same before = before
aborts_after Begins true r r' n same before = ap (λ x. x.aborts) (same refl) ∙ before
aborts_after Begins false r r' n same before = before
aborts_after (Accesses fs m) true r r' n same before = ap (λ x. x.aborts) (same refl) ∙ before
aborts_after (Accesses fs m) false r r' n same before = before
aborts_after (Commits v) true r r' n same before = ap (λ x. x.aborts) (same refl) ∙ before
aborts_after (Commits v) false r r' n same before = before
aborts_after Aborts true r r' n same before = counted_more r.aborts n (ap (λ x. x.aborts) (same refl) ∙ before)
aborts_after Aborts false r r' n same before = before
