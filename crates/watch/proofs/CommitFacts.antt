-- What a commit says of the history before it and after it. Assumes nothing.
use Rattle.std.proofs.Common.{◌≡◌, ℕ, ◌<◌, Bool, true, false, ◌⊎◌, ◌↔◌, List, ◌∷◌, refl, ap, ◌∙◌, inl, inr, ⊎_elim, arith, Ok}
use Rattle.std.proofs.lemmas.Bool.{or_cases, or_left, or_right}
use Rattle.items.specs.declared.entry.Event.TheVariants.{Commit}
use Rattle.items.specs.declared.mode.Mode.{Mode}
use Rattle.serial.specs.Paths.{Cycle}
use Rattle.serial.specs.Changes.{Adds}
use Rattle.serial.proofs.Effects.{cycle_adds}
use Rattle.watch.specs.declared.answer.Verdict.{Verdict}
use Rattle.watch.specs.declared.answer.Outcome.TheVariants.{Committed}
use Rattle.watch.specs.Answers.{Answer}
use Rattle.watch.specs.Histories.{History, Call, made_by, is_open, open_transaction, same_transaction, is_committed, accesses, committed_accesses, has_crossed, conflict}
use Rattle.watch.specs.States.{State}
use Rattle.watch.specs.Steps.{Step, answer_in, verdict_on}
use Rattle.watch.specs.Accounts.{Account}
use Rattle.watch.proofs.HistoryFacts.{transaction_equal, transaction_same}
use Rattle.watch.proofs.AnswerFacts.{passed, commit_taken, uncrossed}

abbrev pub commit_of : ℕ → Call
commit_of b = record { bay = b; event = Commit }

abbrev pub committed_to : Verdict → ℕ → History → History
committed_to v b h = (commit_of b, Ok (Committed v)) ∷ h

-- The transaction of bay b joins the committed ones, and no other does.
pub commit_adds : (v : Verdict) (b : ℕ) (h : History) → Adds (open_transaction h b) (is_committed h) (is_committed (committed_to v b h))
commit_adds v b h u = (
  λ e.
      ⊎_elim (λ same. inr (transaction_equal u (open_transaction h b) same)) (λ old. inl old)
      (or_cases (same_transaction u (open_transaction h b)) (is_committed h u) e),
  λ r. back r,
)
  where
    back : (is_committed h u ≡ true) ⊎ (u ≡ open_transaction h b) → is_committed (committed_to v b h) u ≡ true
    back (inl old) = or_right (same_transaction u (open_transaction h b)) (is_committed h u) old
    back (inr same) = or_left (same_transaction u (open_transaction h b)) (is_committed h u) (transaction_same u (open_transaction h b) same)

module _ (overlapping : List ℕ → List ℕ → Bool) (conflicting : Mode → Mode → Bool) (h : History) (s t : State) (b : ℕ) (v : Verdict)
    (was : Account overlapping conflicting h s) (step : Step overlapping conflicting s (commit_of b) (Ok (Committed v)) t) where
  pub commit_in_bay : b < s.bays
  commit_in_bay = (passed s (commit_of b) (Ok (Committed v)) step.answer refl).1

  pub commit_below : b < 32
  commit_below = let few = was.bays_are_few in let low = commit_in_bay in omega arith

  answered : (is_open h b ≡ true) × ◌≡◌ {A = Answer} (Ok (Committed v)) (Ok (Committed (verdict_on (s.links b b))))
  answered =
      commit_taken (is_open h b) (Ok (Committed v)) b s refl
      ((passed s (commit_of b) (Ok (Committed v)) step.answer refl).2 ∙ ap (λ x. answer_in x Commit b s) (was.bays_are_open_as_in_the_history b))

  pub commit_open : is_open h b ≡ true
  commit_open = answered.0

  pub commit_verdict : ◌≡◌ {A = Answer} (Ok (Committed v)) (Ok (Committed (verdict_on (s.links b b))))
  commit_verdict = answered.1

  pub commit_uncrossed : has_crossed h ≡ false
  commit_uncrossed =
      uncrossed (has_crossed h) s.verdict (passed s (commit_of b) (Ok (Committed v)) step.answer refl).0 was.verdict_is_crossed_once_a_commit_is

  -- The committed accesses have a cycle now exactly when the bay links to itself.
  pub commit_cycle : Cycle made_by (conflict overlapping conflicting) (committed_accesses (committed_to v b h)) ↔ (s.links b b ≡ true)
  commit_cycle =
      let made = cycle_adds made_by (conflict overlapping conflicting) (is_committed h) (is_committed (committed_to v b h)) (open_transaction h b) (commit_adds v b h) (accesses h) (was.committed_have_no_cycle commit_uncrossed) in
      let link = was.links_are_paths commit_uncrossed b b commit_below commit_below in
      (λ c. link.1 (commit_open, commit_open, made.0 c), λ l. made.1 (link.0 l).2)
