-- Every step keeps the account. Assumes nothing.
use Rattle.std.proofs.Common.{◌≡◌, ℕ, Bool, List, ◌∷◌, refl, ap, ◌∙◌, subst, Ok, Err}
use Rattle.items.specs.declared.entry.Event.{Event}
use Rattle.items.specs.declared.entry.Event.TheVariants.{Begin, Commit, Abort}
use Rattle.items.specs.declared.mode.Mode.{Mode}
use Rattle.watch.specs.declared.answer.Verdict.TheVariants.{Clean, Crossed}
use Rattle.watch.specs.Answers.{Answer}
use Rattle.watch.specs.declared.answer.Outcome.TheVariants.{Done, Committed}
use Rattle.watch.specs.Histories.{History, Call, Nothing, effect_of, is_open}
use Rattle.watch.specs.States.{State, LinksAgree}
use Rattle.watch.specs.Steps.{Step, answer_in, links_after, MarksAfter, records_after, verdict_after}
use Rattle.watch.specs.Accounts.{Account, RightAnswer}
use Rattle.watch.proofs.AnswerFacts.{passed, commit_taken}
use Rattle.watch.proofs.SameAccount.{same_account}
use Rattle.watch.proofs.NothingKept.{nothing_kept}
use Rattle.watch.proofs.BeginKept.{begin_kept}
use Rattle.watch.proofs.AbortKept.{abort_kept}
use Rattle.watch.proofs.AccessKept.{access_kept}
use Rattle.watch.proofs.CleanKept.{clean_kept}
use Rattle.watch.proofs.CrossingKept.{crossing_kept}

module _ (overlapping : List ℕ → List ℕ → Bool) (conflicting : Mode → Mode → Bool)
    (mutual-overlap : (fs gs : List ℕ) → overlapping fs gs ≡ overlapping gs fs)
    (mutual-conflict : (m n : Mode) → conflicting m n ≡ conflicting n m) where
  unaffected : (h : History) (s t : State) (c : Call) (a : Answer) → effect_of c.event a ≡ Nothing →
      RightAnswer overlapping conflicting c.event a ((c, a) ∷ h) → Account overlapping conflicting h s →
      Step overlapping conflicting s c a t → Account overlapping conflicting ((c, a) ∷ h) t
  unaffected h s t c a none right was step =
      nothing_kept overlapping conflicting h t c a none right
      (same_account overlapping conflicting h s t
      (record {
        links = subst (λ e. LinksAgree t.links (links_after overlapping conflicting e c.bay s)) none step.links;
        marks = subst (λ e. MarksAfter e c.bay s t.marks) none step.marks;
        records = step.records ∙ ap (λ e. records_after e c.bay s.records) none;
        bays = step.bays;
        verdict = step.verdict ∙ ap (λ e. verdict_after e s.verdict) none;
      })
      was)

  -- A commit is never answered as a begin, an access or an abort is.
  never_done : (h : History) (s t : State) (b : ℕ) → Account overlapping conflicting h s →
      Step overlapping conflicting s (record { bay = b; event = Commit }) (Ok Done) t → ⊥
  never_done h s t b was step =
      let told =
      (commit_taken (is_open h b) (Ok Done) b s refl
      ((passed s (record { bay = b; event = Commit }) (Ok Done) step.answer refl).2 ∙ ap (λ x. answer_in x Commit b s) (was.bays_are_open_as_in_the_history b))).1 in
      cc

  pub account_kept : (h : History) (s t : State) (c : Call) (a : Answer) → Account overlapping conflicting h s →
      Step overlapping conflicting s c a t → Account overlapping conflicting ((c, a) ∷ h) t
  account_kept h s t c a was = at c.bay c.event a
    where
      at : (b : ℕ) (e : Event (List ℕ)) (a : Answer) → Step overlapping conflicting s (record { bay = b; event = e }) a t →
          Account overlapping conflicting ((record { bay = b; event = e }, a) ∷ h) t
      at b Begin (Ok Done) step = begin_kept overlapping conflicting h s t b was step
      at b Begin (Ok (Committed v)) step = unaffected h s t _ _ refl tt was step
      at b Begin (Err r) step = unaffected h s t _ _ refl tt was step
      at b Commit (Ok Done) step = absurd (never_done h s t b was step)
      at b Commit (Ok (Committed Clean)) step = clean_kept overlapping conflicting h s t b was step
      at b Commit (Ok (Committed Crossed)) step = crossing_kept overlapping conflicting h s t b was step
      at b Commit (Err r) step = unaffected h s t _ _ refl tt was step
      at b Abort (Ok Done) step = abort_kept overlapping conflicting h s t b was step
      at b Abort (Ok (Committed v)) step = unaffected h s t _ _ refl tt was step
      at b Abort (Err r) step = unaffected h s t _ _ refl tt was step
      at b (Event.Access m fs) (Ok Done) step = access_kept overlapping conflicting mutual-overlap mutual-conflict h s t b fs m was step
      at b (Event.Access m fs) (Ok (Committed v)) step = unaffected h s t _ _ refl tt was step
      at b (Event.Access m fs) (Err r) step = unaffected h s t _ _ refl tt was step
