-- A call without effect, as a refused one is, leaves the account as it was. Assumes nothing.
use Rattle.std.proofs.Common.{◌≡◌, ℕ, suc, ◌<◌, Bool, true, false, cond, not, ◌&&◌, ◌||◌, eqb, ◌⊎◌, ◌↔◌, List, ◌∷◌, sym, subst}
use Rattle.items.specs.declared.mode.Mode.{Mode}
use Rattle.serial.specs.Lists.{Every}
use Rattle.serial.specs.Accesses.{Transaction}
use Rattle.serial.specs.Paths.{PathIn, Cycle}
use Rattle.serial.specs.Changes.{Made, Reaches, kept}
use Rattle.marks.specs.Holding.{holds_inherited}
use Rattle.watch.specs.Answers.{Answer}
use Rattle.watch.specs.Histories.{History, Call, Effect, Nothing, effect_of, is_begin, is_commit, is_end, is_crossing, is_open, ended, open_transaction, same_transaction, is_committed, Access, made_by, accesses_after, accesses, has_crossed, conflict}
use Rattle.watch.specs.States.{State}
use Rattle.watch.specs.Accounts.{Account, RightAnswer, is_access_to}

-- What is read from a history with one more call on bay b, by the effect of that call.
module _ (h : History) (b : ℕ) where
  abbrev open_by : Effect → ℕ → Bool
  open_by e k = (is_begin e && eqb k b) || (not (is_end e && eqb k b) && is_open h k)

  abbrev ended_by : Effect → ℕ → ℕ
  ended_by e k = cond (is_end e && eqb k b) (suc (ended h k)) (ended h k)

  abbrev transaction_by : Effect → ℕ → Transaction
  transaction_by e k = record { bay = k; number = ended_by e k }

  abbrev committed_by : Effect → Transaction → Bool
  committed_by e t = (is_commit e && same_transaction t (open_transaction h b)) || is_committed h t

  abbrev accesses_by : Effect → List Access
  accesses_by e = accesses_after e (open_transaction h b) (accesses h)

module _ (overlapping : List ℕ → List ℕ → Bool) (conflicting : Mode → Mode → Bool) where
  pub nothing_kept : (h : History) (s : State) (c : Call) (a : Answer) → effect_of c.event a ≡ Nothing →
      RightAnswer overlapping conflicting c.event a ((c, a) ∷ h) → Account overlapping conflicting h s →
      Account overlapping conflicting ((c, a) ∷ h) s
  nothing_kept h s c a none right was =
      record {
        bays_are_open_as_in_the_history = rw none was.bays_are_open_as_in_the_history;
        commits_are_counted = rw none was.commits_are_counted;
        aborts_are_counted = rw none was.aborts_are_counted;
        verdict_is_crossed_once_a_commit_is = rw none was.verdict_is_crossed_once_a_commit_is;
        every_commit_is_right = (right, was.every_commit_is_right);
        links_are_paths =
            subst
            (λ e. (is_crossing e || has_crossed h) ≡ false → (p q : ℕ) → p < 32 → q < 32 →
            (s.links p q ≡ true) ↔ ((open_by h c.bay e p ≡ true) × (open_by h c.bay e q ≡ true) ×
            PathIn made_by (conflict overlapping conflicting) (accesses_by h c.bay e) (committed_by h c.bay e) (transaction_by h c.bay e p) (transaction_by h c.bay e q)))
            (sym none) was.links_are_paths;
        own_marks_are_accesses_of_the_open_transaction = rw none was.own_marks_are_accesses_of_the_open_transaction;
        inherited_marks_are_accesses_that_paths_reach =
            subst
            (λ e. (is_crossing e || has_crossed h) ≡ false → (k : ℕ) → k < 32 → (fs : List ℕ) (m : Mode) →
            (holds_inherited s.marks k fs m ≡ true) ↔ ((open_by h c.bay e k ≡ true) ×
            Reaches made_by (conflict overlapping conflicting) (accesses_by h c.bay e) (committed_by h c.bay e)
            (Made made_by (is_access_to fs m) (accesses_by h c.bay e)) (transaction_by h c.bay e k)))
            (sym none) was.inherited_marks_are_accesses_that_paths_reach;
        held_marks_are_told_apart = was.held_marks_are_told_apart;
        only_bays_hold_marks = was.only_bays_hold_marks;
        open_bays_are_bays = rw none was.open_bays_are_bays;
        bays_are_few = was.bays_are_few;
        bays_have_records = was.bays_have_records;
        accesses_are_numbered =
            subst
            (λ e. Every (λ x. (x.transaction.number < ended_by h c.bay e x.transaction.bay) ⊎
            ((x.transaction.number ≡ ended_by h c.bay e x.transaction.bay) × (open_by h c.bay e x.transaction.bay ≡ true))) (accesses_by h c.bay e))
            (sym none) was.accesses_are_numbered;
        committed_have_no_cycle =
            subst
            (λ e. (is_crossing e || has_crossed h) ≡ false →
            Cycle made_by (conflict overlapping conflicting) (kept made_by (committed_by h c.bay e) (accesses_by h c.bay e)) → ⊥)
            (sym none) was.committed_have_no_cycle;
      }
