-- An abort keeps the account: it takes away the paths that start or end at its transaction, and no others. Assumes nothing.
use Rattle.std.proofs.Common.{ℕ, ◌<◌, Bool, List, ◌∷◌, sym, refl, ap, ◌∙◌, subst, Ok}
use Rattle.items.specs.declared.entry.Event.TheVariants.{Abort}
use Rattle.items.specs.declared.mode.Mode.{Mode}
use Rattle.marks.specs.Holding.{holds_own, holds_inherited}
use Rattle.marks.specs.Apart.{told_apart, OnlyBays}
use Rattle.marks.proofs.HoldsLaws.{leave_own, leave_inherited}
use Rattle.marks.proofs.ApartLaws.{leave_apart, leave_bays}
use Rattle.watch.specs.declared.answer.Outcome.TheVariants.{Done}
use Rattle.watch.specs.Histories.{History, Call}
use Rattle.watch.specs.States.{State}
use Rattle.watch.specs.Steps.{Step}
use Rattle.watch.specs.Accounts.{Account, Path, MadeAccess, ReachesAccess}
use Rattle.watch.proofs.HistoryFacts.{still_open}
use Rattle.watch.proofs.EndedFacts.{held_past, linked_past, numbered_past}
use Rattle.watch.proofs.AnswerFacts.{passed}
use Rattle.watch.proofs.TableKept.{TableAccount, table_kept}

abbrev abort_of : ℕ → Call
abort_of b = record { bay = b; event = Abort }

module _ (overlapping : List ℕ → List ℕ → Bool) (conflicting : Mode → Mode → Bool) (h : History) (s t : State) (b : ℕ)
    (was : Account overlapping conflicting h s) (step : Step overlapping conflicting s (abort_of b) (Ok Done) t) where
  in_bay : b < s.bays
  in_bay = (passed s (abort_of b) (Ok Done) step.answer refl).1

  abbrev after : History
  after = (abort_of b, Ok Done) ∷ h

  table : TableAccount after t
  table = table_kept overlapping conflicting h s t (abort_of b) (Ok Done) was step in_bay

  pub abort_kept : Account overlapping conflicting after t
  abort_kept =
      record {
        bays_are_open_as_in_the_history = table.states;
        commits_are_counted = table.commits;
        aborts_are_counted = table.aborts;
        verdict_is_crossed_once_a_commit_is = step.verdict ∙ was.verdict_is_crossed_once_a_commit_is;
        every_commit_is_right = (tt, was.every_commit_is_right);
        links_are_paths =
            λ clean p q lp lq. linked_past h b (Path overlapping conflicting h) p q _ _ (step.links p q lp lq) (was.links_are_paths clean p q lp lq);
        own_marks_are_accesses_of_the_open_transaction =
            λ clean k lk fs m.
            held_past h b (MadeAccess h fs m) k _ _ (ap (λ ms. holds_own ms k fs m) step.marks ∙ leave_own k fs m lk b s.marks)
            (was.own_marks_are_accesses_of_the_open_transaction clean k lk fs m);
        inherited_marks_are_accesses_that_paths_reach =
            λ clean k lk fs m.
            held_past h b (ReachesAccess overlapping conflicting h fs m) k _ _ (ap (λ ms. holds_inherited ms k fs m) step.marks ∙ leave_inherited k fs m lk b s.marks)
            (was.inherited_marks_are_accesses_that_paths_reach clean k lk fs m);
        held_marks_are_told_apart = ap told_apart step.marks ∙ leave_apart b s.marks was.held_marks_are_told_apart;
        only_bays_hold_marks = subst OnlyBays (sym step.marks) (leave_bays b s.marks was.only_bays_hold_marks);
        open_bays_are_bays = λ k o. subst (λ n. k < n) (sym step.bays) (was.open_bays_are_bays k ((still_open k b _).0 o).1);
        bays_are_few = table.few;
        bays_have_records = table.room;
        accesses_are_numbered = numbered_past h b was.accesses_are_numbered;
        committed_have_no_cycle = was.committed_have_no_cycle;
      }
