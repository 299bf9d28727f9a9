-- Runs: from an opened watch, one call after another. Assumes nothing.
use Rattle.std.specs.Prelude.{ℕ, Bool, List, [], ◌∷◌, map}
use Rattle.items.specs.declared.mode.Mode.{Mode}
use Rattle.watch.specs.Histories.{History, Call}
use Rattle.watch.specs.States.{State, SameState}
use Rattle.watch.specs.Steps.{Step}
use Rattle.watch.specs.Accounts.{Account}

-- The calls of a history.
abbrev pub calls_of : History → List Call
calls_of h = map (λ x. x.0) h

module _ (overlapping : List ℕ → List ℕ → Bool) (conflicting : Mode → Mode → Bool) where
  -- From the first state the calls of a history, each a step with its answer, lead to a state.
  abbrev pub Run : State → History → State → Type 0
  Run first [] s = SameState s first
  Run first (x ∷ h) s = (before : State) × Run first h before × Step overlapping conflicting before x.0 x.1 s

  -- The same, and at every state on the way the account of the history up to it holds.
  abbrev pub AccountedRun : State → History → State → Type 0
  AccountedRun first [] s = SameState s first × Account overlapping conflicting [] s
  AccountedRun first (x ∷ h) s =
      (before : State) × AccountedRun first h before × Step overlapping conflicting before x.0 x.1 s ×
      Account overlapping conflicting (x ∷ h) s
