-- A run with one call more, and from another beginning that is the same. Assumes nothing.
use Rattle.std.proofs.Common.{◌≡◌, ℕ, Bool, List, [], ◌∷◌, ◌++◌, length, sym, refl, ◌∙◌, subst, arith}
use Rattle.items.specs.declared.mode.Mode.{Mode}
use Rattle.watch.specs.Answers.{Answer}
use Rattle.watch.specs.Histories.{Call, History, history_after, history_of}
use Rattle.watch.specs.States.{State, SameState}
use Rattle.watch.specs.Steps.{Step}
use Rattle.watch.specs.Accounts.{Extends}
use Rattle.watch.specs.Runs.{AccountedRun}
use Rattle.watch.proofs.RunFacts.{account_last}

-- one call more, behind as many as were answered
pub history_push : (h : History) (calls : List Call) (answers : List Answer) (c : Call) (a : Answer) → length answers ≡ length calls → history_after h (calls ++ c ∷ []) (answers ++ a ∷ []) ≡ (c, a) ∷ history_after h calls answers
history_push h [] [] c a same = refl
history_push h [] (b ∷ answers) c a same = absurd (omega arith)
history_push h (d ∷ calls) [] c a same = absurd (omega arith)
history_push h (d ∷ calls) (b ∷ answers) c a same = history_push ((d, b) ∷ h) calls answers c a (omega arith)

pub same_state : (s : State) → SameState s s
same_state s = record { links = λ a b _ _. refl; marks = refl; records = refl; bays = refl; verdict = refl }

same_on : (s t u : State) → SameState s t → SameState t u → SameState s u
same_on s t u p q =
    record {
      links = λ a b some few. p.links a b some few ∙ q.links a b some few;
      marks = p.marks ∙ q.marks;
      records = p.records ∙ q.records;
      bays = p.bays ∙ q.bays;
      verdict = p.verdict ∙ q.verdict;
    }

module _ (overlapping : List ℕ → List ℕ → Bool) (conflicting : Mode → Mode → Bool) where
  -- from a first state that is the same as another
  pub accounted_from : (first other : State) → SameState first other → (h : History) (s : State) → AccountedRun overlapping conflicting first h s → AccountedRun overlapping conflicting other h s
  accounted_from first other same [] s run = (same_on s first other run.0 same, run.1)
  accounted_from first other same (x ∷ h) s run = (run.0, accounted_from first other same h run.0 run.1, run.2, run.3)

  -- one call more
  pub accounted_push : (first before after : State) (calls : List Call) (answers : List Answer) (c : Call) (a : Answer) → length answers ≡ length calls → AccountedRun overlapping conflicting first (history_of calls answers) before → Step overlapping conflicting before c a after → Extends overlapping conflicting before c a after → AccountedRun overlapping conflicting first (history_of (calls ++ c ∷ []) (answers ++ a ∷ [])) after
  accounted_push first before after calls answers c a same run step more =
      let h = history_of calls answers in
      let on : AccountedRun overlapping conflicting first ((c, a) ∷ h) after = (before, run, step, more h (account_last overlapping conflicting first h before run)) in
      subst (λ x. AccountedRun overlapping conflicting first x after) (sym (history_push [] calls answers c a same)) on
