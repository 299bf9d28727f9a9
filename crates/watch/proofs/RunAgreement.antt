-- The calls of a run settle its answers, whichever vacant marks were taken. Assumes nothing.
use Rattle.std.proofs.Common.{◌≡◌, ℕ, ◌≤◌, Bool, List, [], ◌∷◌, length, sym, refl, ap, ◌∙◌, subst, arith}
use Rattle.items.specs.declared.mode.Mode.{Mode}
use Rattle.marks.specs.Marks.{MarkMeant}
use Rattle.watch.specs.Histories.{History}
use Rattle.watch.specs.States.{State, opened_state}
use Rattle.watch.specs.Steps.{answer_to}
use Rattle.watch.specs.Accounts.{Account}
use Rattle.watch.specs.Runs.{Run, calls_of}
use Rattle.watch.proofs.Agreement.{answers_agree}
use Rattle.watch.proofs.LengthFacts.{run_bays, run_marks}
use Rattle.watch.proofs.RunFacts.{run_accounted, account_last}

none_and_some : {A : Type 0} (x : A) (xs : List A) → [] ≡ x ∷ xs → ⊥
none_and_some x xs e = let long : ◌≡◌ {A = ℕ} 0 (length (x ∷ xs)) = ap length e in omega arith

module _ (overlapping : List ℕ → List ℕ → Bool) (conflicting : Mode → Mode → Bool)
    (mutual-overlap : (fs gs : List ℕ) → overlapping fs gs ≡ overlapping gs fs)
    (mutual-conflict : (m n : Mode) → conflicting m n ≡ conflicting n m)
    (bays : ℕ) (ms : List MarkMeant) (few : bays ≤ 32) where
  account_of : (h : History) (s : State) → Run overlapping conflicting (opened_state bays ms) h s → Account overlapping conflicting h s
  account_of h s run =
      account_last overlapping conflicting (opened_state bays ms) h s
      (run_accounted overlapping conflicting mutual-overlap mutual-conflict bays ms few h s run)

  pub runs_agree : (h k : History) (s t : State) → Run overlapping conflicting (opened_state bays ms) h s →
      Run overlapping conflicting (opened_state bays ms) k t → calls_of h ≡ calls_of k → h ≡ k
  runs_agree [] [] s t run other same = refl
  runs_agree [] (y ∷ k) s t run other same = absurd (none_and_some y.0 (calls_of k) same)
  runs_agree (x ∷ h) [] s t run other same = absurd (none_and_some x.0 (calls_of h) (sym same))
  runs_agree (x ∷ h) (y ∷ k) s t (before, run, step) (before', other, step') same =
      let older : h ≡ k = runs_agree h k before before' run other (cc) in
      let call : x.0 ≡ y.0 = cc in
      let agree =
      answers_agree overlapping conflicting h before before' (account_of h before run)
      (subst (λ l. Account overlapping conflicting l before') (sym older) (account_of k before' other))
      (run_bays overlapping conflicting _ h before run ∙ sym (run_bays overlapping conflicting _ k before' other))
      (run_marks overlapping conflicting _ h before run ∙ sym (run_marks overlapping conflicting _ k before' other)) x.0 in
      let answer : x.1 ≡ y.1 = step.answer ∙ agree ∙ ap (answer_to before') call ∙ sym step'.answer in
      λ i. (call i, answer i) ∷ older i
