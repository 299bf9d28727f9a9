-- What a state owes to the history that led to it. Assumes nothing.
use Rattle.std.specs.Prelude.{◌≡◌, ℕ, ◌<◌, ◌≤◌, min, Bool, true, false, ◌⊎◌, ◌↔◌, List, [], ◌∷◌, length, Ok, Err}
use Rattle.items.specs.declared.entry.Event.{Event}
use Rattle.items.specs.declared.entry.Event.TheVariants.{Begin, Commit, Abort}
use Rattle.items.specs.declared.mode.Mode.{Mode}
use Rattle.serial.specs.Lists.{Every}
use Rattle.serial.specs.Accesses.{Transaction}
use Rattle.serial.specs.Paths.{PathIn, Cycle}
use Rattle.serial.specs.Arrangements.{Serializable}
use Rattle.serial.specs.Changes.{Made, Reaches}
use Rattle.marks.specs.Marks.{same_access}
use Rattle.marks.specs.Holding.{holds_own, holds_inherited}
use Rattle.marks.specs.Apart.{told_apart, OnlyBays}
use Rattle.watch.specs.declared.answer.Verdict.{Verdict}
use Rattle.watch.specs.declared.answer.Verdict.TheVariants.{Clean, Crossed}
use Rattle.watch.specs.declared.answer.Outcome.TheVariants.{Done, Committed}
use Rattle.watch.specs.declared.bay_record.BayState.{BayState}
use Rattle.watch.specs.declared.bay_record.BayState.TheVariants.{Idle, Open}
use Rattle.watch.specs.Answers.{Answer}
use Rattle.watch.specs.Histories.{Call, History, Access, made_by, is_open, is_commit, is_abort, count, ended, open_transaction, is_committed, accesses, committed_accesses, has_crossed, conflict}
use Rattle.watch.specs.States.{State, record_at}

-- The state of a bay, by whether it is open.
abbrev pub state_when : Bool → BayState
state_when true = Open
state_when false = Idle

-- The verdict, by whether a commit crossed.
abbrev pub verdict_when : Bool → Verdict
verdict_when true = Crossed
verdict_when false = Clean

-- An access has these fields and this mode.
abbrev pub is_access_to : List ℕ → Mode → Access → Bool
is_access_to fs m x = same_access x.fields x.mode fs m

-- A transaction made an access with these fields and this mode.
abbrev pub MadeAccess : History → List ℕ → Mode → Transaction → Type 0
MadeAccess h fs m t = Made made_by (is_access_to fs m) (accesses h) t

-- An access is of a transaction that has ended, or of the one that is open in its bay.
abbrev pub Numbered : History → Access → Type 0
Numbered h x =
    (x.transaction.number < ended h x.transaction.bay) ⊎
    ((x.transaction.number ≡ ended h x.transaction.bay) × (is_open h x.transaction.bay ≡ true))

module _ (overlapping : List ℕ → List ℕ → Bool) (conflicting : Mode → Mode → Bool) where
  -- A path of conflicts leads from one transaction to another, through committed ones alone.
  abbrev pub Path : History → Transaction → Transaction → Type 0
  Path h s t = PathIn made_by (conflict overlapping conflicting) (accesses h) (is_committed h) s t

  -- A path leads from a transaction to a committed one that made an access with these fields and this mode.
  abbrev pub ReachesAccess : History → List ℕ → Mode → Transaction → Type 0
  ReachesAccess h fs m s = Reaches made_by (conflict overlapping conflicting) (accesses h) (is_committed h) (MadeAccess h fs m) s

  -- Interchanges lead from the committed accesses to a list in which every transaction's accesses stand next to one another.
  abbrev pub CommittedSerializable : History → Type 0
  CommittedSerializable h = Serializable made_by (conflict overlapping conflicting) (committed_accesses h)

  -- An answer is right after this history, the call itself included: a commit is Clean if the committed accesses are
  -- serializable by interchange, Crossed if they are not, or refused.
  abbrev pub RightAnswer : Event (List ℕ) → Answer → History → Type 0
  RightAnswer Begin a h = Unit {0}
  RightAnswer Commit (Ok Done) h = ⊥
  RightAnswer Commit (Ok (Committed Clean)) h = CommittedSerializable h
  RightAnswer Commit (Ok (Committed Crossed)) h = CommittedSerializable h → ⊥
  RightAnswer Commit (Err r) h = Unit {0}
  RightAnswer Abort a h = Unit {0}
  RightAnswer (Event.Access m fs) a h = Unit {0}

  -- Every commit in the history was answered right, by the history up to it.
  abbrev pub EveryCommitIsRight : History → Type 0
  EveryCommitIsRight [] = Unit {0}
  EveryCommitIsRight (x ∷ h) = RightAnswer x.0.event x.1 (x ∷ h) × EveryCommitIsRight h

  -- The account of a history by a state.
  pub record Account (h : History) (s : State) : Type 0 where
    -- bays are open exactly as in the history
    pub bays_are_open_as_in_the_history : (b : ℕ) → (record_at s.records b).state ≡ state_when (is_open h b)
    -- the counters of each bay are the numbers in the history, up to their limit
    pub commits_are_counted : (b : ℕ) → (record_at s.records b).commits ≡ min (count is_commit h b) 4294967295
    pub aborts_are_counted : (b : ℕ) → (record_at s.records b).aborts ≡ min (count is_abort h b) 4294967295
    -- the verdict is Crossed exactly when some commit crossed
    pub verdict_is_crossed_once_a_commit_is : s.verdict ≡ verdict_when (has_crossed h)
    -- every commit is Clean exactly when the committed accesses, its own included, are serializable by interchange
    pub every_commit_is_right : EveryCommitIsRight h
    -- until a crossing, a bay links to a bay exactly when a path leads from the open transaction of the one to that of the other
    pub links_are_paths : has_crossed h ≡ false → (a b : ℕ) → a < 32 → b < 32 →
        (s.links a b ≡ true) ↔ ((is_open h a ≡ true) × (is_open h b ≡ true) × Path h (open_transaction h a) (open_transaction h b))
    -- until a crossing, a bay holds as own what its open transaction accessed
    pub own_marks_are_accesses_of_the_open_transaction : has_crossed h ≡ false → (b : ℕ) → b < 32 → (fs : List ℕ) (m : Mode) →
        (holds_own s.marks b fs m ≡ true) ↔ ((is_open h b ≡ true) × MadeAccess h fs m (open_transaction h b))
    -- until a crossing, a bay holds as inherited what committed transactions accessed to which a path leads from its open one
    pub inherited_marks_are_accesses_that_paths_reach : has_crossed h ≡ false → (b : ℕ) → b < 32 → (fs : List ℕ) (m : Mode) →
        (holds_inherited s.marks b fs m ≡ true) ↔ ((is_open h b ≡ true) × ReachesAccess h fs m (open_transaction h b))
    -- no two held marks have the same fields and mode
    pub held_marks_are_told_apart : told_apart s.marks ≡ true
    -- only bays hold marks
    pub only_bays_hold_marks : OnlyBays s.marks
    -- only bays of the watch are open, there are at most 32, and each has its record
    pub open_bays_are_bays : (b : ℕ) → is_open h b ≡ true → b < s.bays
    pub bays_are_few : s.bays ≤ 32
    pub bays_have_records : s.bays ≤ length s.records
    -- every access is of a transaction that has ended or of the open one
    pub accesses_are_numbered : Every (Numbered h) (accesses h)
    -- until a crossing, no committed transaction has a path back to itself
    pub committed_have_no_cycle : has_crossed h ≡ false → Cycle made_by (conflict overlapping conflicting) (committed_accesses h) → ⊥

  -- A call extends the account: of whatever history the state before gives it, the state after gives it of the history with
  -- the call and its answer.
  abbrev pub Extends : State → Call → Answer → State → Type 0
  Extends before c a after = (h : History) → Account h before → Account ((c, a) ∷ h) after
