-- Opening a watch, and its refusal. Assumes nothing.
use Rattle.std.specs.Prelude.{◌≡◌, ℕ, Bool, true, false, ◌&&◌, List, [], length, Ok, Err, Result, nat_le}
use Rattle.std.specs.Borrow.{MutBor}
use Rattle.items.specs.declared.mode.Mode.{Mode}
use Rattle.boards.specs.Boards.{Links}
use Rattle.marks.specs.declared.mark.Mark.{Mark}
use Rattle.marks.specs.declared.mark_list.Unopened.{Unopened}
use Rattle.marks.specs.Marks.{meant_marks}
use Rattle.marks.specs.Opening.{bad_size}
use Rattle.watch.specs.declared.watch.Watch.{Watch}
use Rattle.watch.specs.States.{SameState, opened_state}
use Rattle.watch.specs.Watches.{state_of}
use Rattle.watch.specs.Accounts.{Account}

-- A watch can be opened for 1 to 32 bays and over 1 to 4,096 marks.
abbrev pub can_open : ℕ → ℕ → Bool
can_open bays marks = (nat_le 1 bays && nat_le bays 32) && (nat_le 1 marks && nat_le marks 4096)

-- A watch that could not be opened: why, and the marks as they were.
pub record NotOpened {I : Type 0} (marks : List (Mark I)) (u : Unopened I) : Type 0 where
  pub refusal : u.refusal ≡ bad_size
  pub unchanged : u.marks.now ≡ marks

-- What opening answers: a watch in the opened state if it can be opened, and otherwise the refusal with the marks as they were.
abbrev pub Opens : {I B : Type 0} → (B → Links) → (I → List ℕ) → ℕ → List (Mark I) → Result (Watch I B) (Unopened I) → Type 0
Opens linked fields bays marks (Ok w) = (can_open bays (length marks) ≡ true) × SameState (state_of linked fields w) (opened_state bays (meant_marks fields marks))
Opens linked fields bays marks (Err u) = (can_open bays (length marks) ≡ false) × NotOpened marks u

-- A watch that was opened gives the account of the empty history.
abbrev pub AccountAtOpening : {I B : Type 0} → (List ℕ → List ℕ → Bool) → (Mode → Mode → Bool) → (B → Links) → (I → List ℕ) → Result (Watch I B) (Unopened I) → Type 0
AccountAtOpening overlapping conflicting linked fields (Ok w) = Account overlapping conflicting [] (state_of linked fields w)
AccountAtOpening overlapping conflicting linked fields (Err u) = Unit {0}

-- The memory that the answer to opening holds.
abbrev pub memory_of : {I B : Type 0} → Result (Watch I B) (Unopened I) → MutBor (List (Mark I))
memory_of (Ok w) = w.marks.marks
memory_of (Err u) = u.marks
