-- What a whole run answers. Assumes nothing.
use Rattle.std.specs.Prelude.{◌≡◌, ℕ, Bool, false, List, map, length, Ok, Err, vec_items, Result}
use Rattle.items.specs.Entries.{entry_meant}
use Rattle.items.specs.declared.entry.Entry.{Entry}
use Rattle.items.specs.declared.mode.Mode.{Mode}
use Rattle.boards.specs.Boards.{Links}
use Rattle.marks.specs.declared.mark.Mark.{Mark}
use Rattle.marks.specs.Marks.{meant_marks}
use Rattle.watch.specs.declared.run.Run.{Run}
use Rattle.watch.specs.declared.run.RunError.{RunError}
use Rattle.watch.specs.declared.run.RunError.TheVariants.{Unopened, OutOfMemory}
use Rattle.watch.specs.Histories.{history_of}
use Rattle.watch.specs.States.{opened_state}
use Rattle.watch.specs.Watches.{state_of}
use Rattle.watch.specs.Opening.{can_open, NotOpened}
use Rattle.watch.specs.Runs.{AccountedRun}

-- Every call was answered, and the calls with their answers lead from the opened state to that of the watch, step by step,
-- with the account of the history so far at every state on the way.
pub record RanWhole {I B : Type 0} (overlapping : List ℕ → List ℕ → Bool) (conflicting : Mode → Mode → Bool) (linked : B → Links) (fields : I → List ℕ) (bays : ℕ) (marks : List (Mark I)) (calls : List (Entry I)) (r : Run I B) : Type 0 where
  pub answered : length (vec_items r.answers) ≡ length calls
  pub accounted : AccountedRun overlapping conflicting (opened_state bays (meant_marks fields marks)) (history_of (map (entry_meant fields) calls) (vec_items r.answers)) (state_of linked fields r.watch)

-- A run is whole, or the watch could not be opened, and the marks are as they were; want of memory says nothing of the calls.
abbrev pub Ran : {I B : Type 0} → (List ℕ → List ℕ → Bool) → (Mode → Mode → Bool) → (B → Links) → (I → List ℕ) → ℕ → List (Mark I) → List (Entry I) → Result (Run I B) (RunError I) → Type 0
Ran overlapping conflicting linked fields bays marks calls (Ok r) = RanWhole overlapping conflicting linked fields bays marks calls r
Ran overlapping conflicting linked fields bays marks calls (Err (Unopened u)) = (can_open bays (length marks) ≡ false) × NotOpened marks u
Ran overlapping conflicting linked fields bays marks calls (Err OutOfMemory) = Unit {0}
