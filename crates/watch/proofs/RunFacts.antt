-- At every state of a run the account holds. Assumes nothing.
use Rattle.std.proofs.Common.{◌≡◌, ℕ, ◌≤◌, Bool, List, [], ◌∷◌}
use Rattle.items.specs.declared.mode.Mode.{Mode}
use Rattle.marks.specs.Marks.{MarkMeant}
use Rattle.watch.specs.Histories.{History}
use Rattle.watch.specs.States.{State, SameState, opened_state}
use Rattle.watch.specs.Accounts.{Account}
use Rattle.watch.specs.Runs.{Run, AccountedRun}
use Rattle.watch.proofs.SameAccount.{same_account}
use Rattle.watch.proofs.OpenedAccount.{opened_account}
use Rattle.watch.proofs.Keeping.{account_kept}

module _ (overlapping : List ℕ → List ℕ → Bool) (conflicting : Mode → Mode → Bool) where
  -- The account at the last state.
  pub account_last : (first : State) (h : History) (s : State) → AccountedRun overlapping conflicting first h s →
      Account overlapping conflicting h s
  account_last first [] s run = run.1
  account_last first (x ∷ h) s run = run.3

  -- A watch opened for at most 32 bays, its links pair by pair none.
  pub opening_account : (bays : ℕ) (ms : List MarkMeant) (s : State) → bays ≤ 32 → SameState s (opened_state bays ms) →
      Account overlapping conflicting [] s
  opening_account bays ms s few same =
      same_account overlapping conflicting [] (opened_state bays ms) s same (opened_account overlapping conflicting bays ms few)

  module _ (mutual-overlap : (fs gs : List ℕ) → overlapping fs gs ≡ overlapping gs fs)
      (mutual-conflict : (m n : Mode) → conflicting m n ≡ conflicting n m) where
    pub run_accounted : (bays : ℕ) (ms : List MarkMeant) → bays ≤ 32 → (h : History) (s : State) →
        Run overlapping conflicting (opened_state bays ms) h s → AccountedRun overlapping conflicting (opened_state bays ms) h s
    run_accounted bays ms few [] s same = (same, opening_account bays ms s few same)
    run_accounted bays ms few (x ∷ h) s (before, run, step) =
        let so_far = run_accounted bays ms few h before run in (
          before,
          so_far,
          step,
          account_kept overlapping conflicting mutual-overlap mutual-conflict h before s x.0 x.1
              (account_last (opened_state bays ms) h before so_far) step,
        )
