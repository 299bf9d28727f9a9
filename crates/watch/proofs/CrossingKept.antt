-- A commit that is Crossed keeps the account: its transaction has a path back to itself. Assumes nothing.
use Rattle.std.proofs.Common.{ℕ, ◌<◌, Bool, true, List, sym, refl, ap, ◌∙◌, subst, Ok}
use Rattle.std.proofs.lemmas.Bool.{both_ways}
use Rattle.items.specs.declared.mode.Mode.{Mode}
use Rattle.serial.proofs.SameTransaction.{same_transaction_lem}
use Rattle.serial.proofs.Serializing.{serializable_no_cycle}
use Rattle.marks.specs.Apart.{told_apart, OnlyBays}
use Rattle.watch.specs.declared.answer.Verdict.TheVariants.{Crossed}
use Rattle.watch.specs.declared.answer.Outcome.TheVariants.{Committed}
use Rattle.watch.specs.Histories.{History, made_by, committed_accesses, conflict}
use Rattle.watch.specs.States.{State}
use Rattle.watch.specs.Steps.{Step}
use Rattle.watch.specs.Accounts.{Account, CommittedSerializable}
use Rattle.watch.proofs.HistoryFacts.{still_open}
use Rattle.watch.proofs.EndedFacts.{numbered_past}
use Rattle.watch.proofs.AnswerFacts.{crossed_linked}
use Rattle.watch.proofs.CommitFacts.{commit_of, committed_to, commit_in_bay, commit_verdict, commit_cycle}
use Rattle.watch.proofs.TableKept.{TableAccount, table_kept}

module _ (overlapping : List ℕ → List ℕ → Bool) (conflicting : Mode → Mode → Bool) (h : History) (s t : State) (b : ℕ)
    (was : Account overlapping conflicting h s) (step : Step overlapping conflicting s (commit_of b) (Ok (Committed Crossed)) t) where
  abbrev after : History
  after = committed_to Crossed b h

  in_bay : b < s.bays
  in_bay = commit_in_bay overlapping conflicting h s t b Crossed was step

  not_serializable : CommittedSerializable overlapping conflicting after → ⊥
  not_serializable arranged =
      serializable_no_cycle same_transaction_lem made_by (conflict overlapping conflicting) (committed_accesses after) arranged
      ((commit_cycle overlapping conflicting h s t b Crossed was step).1
      (crossed_linked (s.links b b) (commit_verdict overlapping conflicting h s t b Crossed was step)))

  table : TableAccount after t
  table = table_kept overlapping conflicting h s t (commit_of b) (Ok (Committed Crossed)) was step in_bay

  pub crossing_kept : Account overlapping conflicting after t
  crossing_kept =
      record {
        bays_are_open_as_in_the_history = table.states;
        commits_are_counted = table.commits;
        aborts_are_counted = table.aborts;
        verdict_is_crossed_once_a_commit_is = step.verdict;
        every_commit_is_right = (not_serializable, was.every_commit_is_right);
        links_are_paths = λ clean. absurd (both_ways true clean refl);
        own_marks_are_accesses_of_the_open_transaction = λ clean. absurd (both_ways true clean refl);
        inherited_marks_are_accesses_that_paths_reach = λ clean. absurd (both_ways true clean refl);
        held_marks_are_told_apart = ap told_apart step.marks ∙ was.held_marks_are_told_apart;
        only_bays_hold_marks = subst OnlyBays (sym step.marks) was.only_bays_hold_marks;
        open_bays_are_bays = λ k o. subst (λ n. k < n) (sym step.bays) (was.open_bays_are_bays k ((still_open k b _).0 o).1);
        bays_are_few = table.few;
        bays_have_records = table.room;
        accesses_are_numbered = numbered_past h b was.accesses_are_numbered;
        committed_have_no_cycle = λ clean. absurd (both_ways true clean refl);
      }
