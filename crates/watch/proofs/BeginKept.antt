-- A begin keeps the account: the transaction that it opens has made no access, so no path leads from it or to it. Assumes nothing.
use Rattle.std.proofs.Common.{◌≡◌, ℕ, ◌<◌, Bool, true, false, ◌||◌, eqb, List, ◌∷◌, sym, refl, ap, ◌∙◌, subst, ⊎_elim, Ok}
use Rattle.std.proofs.lemmas.Bool.{eqb-true, or_cases, or_right}
use Rattle.items.specs.declared.entry.Event.TheVariants.{Begin}
use Rattle.items.specs.declared.mode.Mode.{Mode}
use Rattle.serial.specs.Lists.{Some}
use Rattle.serial.proofs.ListFacts.{every_map, some_map}
use Rattle.marks.specs.Holding.{holds_own, holds_inherited}
use Rattle.marks.specs.Apart.{told_apart, OnlyBays}
use Rattle.watch.specs.declared.answer.Outcome.TheVariants.{Done}
use Rattle.watch.specs.Histories.{History, Call, made_by, is_open, ended, open_transaction, accesses}
use Rattle.watch.specs.States.{State}
use Rattle.watch.specs.Steps.{Step, answer_in}
use Rattle.watch.specs.Accounts.{Account}
use Rattle.watch.proofs.HistoryFacts.{idle_unmade, path_from, path_to, numbered_begun}
use Rattle.watch.proofs.AnswerFacts.{passed, begin_taken}
use Rattle.watch.proofs.TableKept.{TableAccount, table_kept}

abbrev begin_of : ℕ → Call
begin_of b = record { bay = b; event = Begin }

module _ (overlapping : List ℕ → List ℕ → Bool) (conflicting : Mode → Mode → Bool) (h : History) (s t : State) (b : ℕ)
    (was : Account overlapping conflicting h s) (step : Step overlapping conflicting s (begin_of b) (Ok Done) t) where
  in_bay : b < s.bays
  in_bay = (passed s (begin_of b) (Ok Done) step.answer refl).1

  idle : is_open h b ≡ false
  idle =
      begin_taken (is_open h b) (Ok Done) b s refl
      ((passed s (begin_of b) (Ok Done) step.answer refl).2 ∙ ap (λ x. answer_in x Begin b s) (was.bays_are_open_as_in_the_history b))

  -- A bay that is open now was open, unless its transaction made no access.
  was_open : (k : ℕ) → (eqb k b || is_open h k) ≡ true → Some (λ x. made_by x ≡ open_transaction h k) (accesses h) → is_open h k ≡ true
  was_open k o made =
      ⊎_elim
      (λ e. absurd (idle_unmade h b was.accesses_are_numbered idle (subst (λ j. Some (λ x. made_by x ≡ open_transaction h j) (accesses h)) (eqb-true k b e) made)))
      (λ e. e)
      (or_cases (eqb k b) (is_open h k) o)

  table : TableAccount ((begin_of b, Ok Done) ∷ h) t
  table = table_kept overlapping conflicting h s t (begin_of b) (Ok Done) was step in_bay

  pub begin_kept : Account overlapping conflicting ((begin_of b, Ok Done) ∷ h) t
  begin_kept =
      record {
        bays_are_open_as_in_the_history = table.states;
        commits_are_counted = table.commits;
        aborts_are_counted = table.aborts;
        verdict_is_crossed_once_a_commit_is = step.verdict ∙ was.verdict_is_crossed_once_a_commit_is;
        every_commit_is_right = (tt, was.every_commit_is_right);
        links_are_paths =
            λ clean p q lp lq.
            let old = was.links_are_paths clean p q lp lq in let e = step.links p q lp lq in (
              λ k. let r = old.0 (sym e ∙ k) in (or_right (eqb p b) _ r.0, or_right (eqb q b) _ r.1, r.2),
              λ r. e ∙ old.1 (
                was_open p r.0 (path_from overlapping conflicting h _ _ r.2),
                was_open q r.1 (path_to overlapping conflicting h _ _ r.2),
                r.2,
              ),
            );
        own_marks_are_accesses_of_the_open_transaction =
            λ clean k lk fs m.
            let old = was.own_marks_are_accesses_of_the_open_transaction clean k lk fs m in
            let e = ap (λ ms. holds_own ms k fs m) step.marks in (
              λ l. let r = old.0 (sym e ∙ l) in (or_right (eqb k b) _ r.0, r.1),
              λ r. e ∙ old.1 (was_open k r.0 (some_map _ _ (λ x u. u.0) (accesses h) r.1), r.1),
            );
        inherited_marks_are_accesses_that_paths_reach =
            λ clean k lk fs m.
            let old = was.inherited_marks_are_accesses_that_paths_reach clean k lk fs m in
            let e = ap (λ ms. holds_inherited ms k fs m) step.marks in (
              λ l. let r = old.0 (sym e ∙ l) in (or_right (eqb k b) _ r.0, r.1),
              λ r. e ∙ old.1 (was_open k r.0 (path_from overlapping conflicting h _ _ r.1.2), r.1),
            );
        held_marks_are_told_apart = ap told_apart step.marks ∙ was.held_marks_are_told_apart;
        only_bays_hold_marks = subst OnlyBays (sym step.marks) was.only_bays_hold_marks;
        open_bays_are_bays =
            λ k o. subst (λ n. k < n) (sym step.bays)
            (⊎_elim (λ e. subst (λ j. j < s.bays) (sym (eqb-true k b e)) in_bay) (was.open_bays_are_bays k) (or_cases (eqb k b) (is_open h k) o));
        bays_are_few = table.few;
        bays_have_records = table.room;
        accesses_are_numbered =
            every_map _ _
            (λ x. numbered_begun (eqb x.transaction.bay b) x.transaction.number (ended h x.transaction.bay) (is_open h x.transaction.bay))
            (accesses h) was.accesses_are_numbered;
        committed_have_no_cycle = was.committed_have_no_cycle;
      }
