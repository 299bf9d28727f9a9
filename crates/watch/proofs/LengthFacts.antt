-- The numbers of bays and of marks stay as they are along a run. Assumes nothing.
use Rattle.std.proofs.Common.{◌≡◌, ℕ, Bool, true, List, [], ◌∷◌, length, ap, ◌∙◌}
use Rattle.std.proofs.lemmas.List.{length-map}
use Rattle.items.specs.declared.mode.Mode.{Mode}
use Rattle.boards.specs.Boards.{bays_into}
use Rattle.marks.specs.Marks.{MarkMeant, inherits, leaves}
use Rattle.marks.specs.Steps.{all_inherited}
use Rattle.marks.proofs.HoldEffects.{hold_length}
use Rattle.watch.specs.declared.answer.Verdict.TheVariants.{Clean, Crossed}
use Rattle.watch.specs.Histories.{History, Effect, Nothing, Begins, Accesses, Commits, Aborts, effect}
use Rattle.watch.specs.States.{State}
use Rattle.watch.specs.Steps.{MarksAfter}
use Rattle.watch.specs.Runs.{Run}

marks_length : (e : Effect) (b : ℕ) (s : State) (after : List MarkMeant) → MarksAfter e b s after → length after ≡ length s.marks
marks_length Nothing b s after same = ap length same
marks_length Begins b s after same = ap length same
marks_length (Accesses fs m) b s after held = hold_length b fs m s.marks after true held
marks_length (Commits Clean) b s after same =
    ap length same
    ∙ length-map (all_inherited b (bays_into s.links b) s.marks) (leaves b)
    ∙ length-map s.marks (inherits b (bays_into s.links b))
marks_length (Commits Crossed) b s after same = ap length same
marks_length Aborts b s after same = ap length same ∙ length-map s.marks (leaves b)

module _ (overlapping : List ℕ → List ℕ → Bool) (conflicting : Mode → Mode → Bool) (first : State) where
  pub run_bays : (h : History) (s : State) → Run overlapping conflicting first h s → s.bays ≡ first.bays
  run_bays [] s same = same.bays
  run_bays (x ∷ h) s (before, run, step) = step.bays ∙ run_bays h before run

  pub run_marks : (h : History) (s : State) → Run overlapping conflicting first h s → length s.marks ≡ length first.marks
  run_marks [] s same = ap length same.marks
  run_marks (x ∷ h) s (before, run, step) = marks_length (effect x) x.0.bay before s.marks step.marks ∙ run_marks h before run
