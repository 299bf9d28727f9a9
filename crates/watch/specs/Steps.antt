-- What a call answers, and what it leaves of a state with any list of marks. Assumes nothing.
use Rattle.std.specs.Prelude.{◌≡◌, ℕ, suc, ◌<◌, min, Bool, true, false, cond, ◌&&◌, ◌||◌, List, ◌==◌, nat_lt, slice_set, Ok, Err}
use Rattle.items.specs.declared.entry.Event.{Event}
use Rattle.items.specs.declared.entry.Event.TheVariants.{Begin, Commit, Abort}
use Rattle.items.specs.declared.mode.Mode.{Mode}
use Rattle.items.specs.declared.refusal.Reason.{Reason}
use Rattle.items.specs.declared.refusal.Reason.TheVariants.{AfterCrossing, NoSuchBay, BayOpen, BayIdle, NoVacantMark}
use Rattle.items.specs.declared.refusal.Layer.TheVariants.{Watch}
use Rattle.items.specs.declared.refusal.Refusal.{Refusal}
use Rattle.boards.specs.BaySets.{bit}
use Rattle.boards.specs.Boards.{Links, without_pairs_of, bays_into}
use Rattle.marks.specs.Marks.{MarkMeant, is_vacant, is_held_of}
use Rattle.std.specs.List.{list_any}
use Rattle.marks.specs.Steps.{HoldStep, all_left, all_handed_on}
use Rattle.marks.specs.Against.{linked_by}
use Rattle.watch.specs.declared.answer.Verdict.{Verdict}
use Rattle.watch.specs.declared.answer.Verdict.TheVariants.{Clean, Crossed}
use Rattle.watch.specs.declared.answer.Outcome.TheVariants.{Done, Committed}
use Rattle.watch.specs.declared.bay_record.BayRecord.{BayRecord}
use Rattle.watch.specs.declared.bay_record.BayState.{BayState}
use Rattle.watch.specs.declared.bay_record.BayState.TheVariants.{Idle, Open}
use Rattle.watch.specs.Answers.{Answer}
use Rattle.watch.specs.Histories.{Call, Effect, Nothing, Begins, Accesses, Commits, Aborts, effect_of}
use Rattle.watch.specs.States.{State, record_at, LinksAgree}

-- The watch's refusal for a reason.
abbrev pub refusal_for : Reason → Refusal
refusal_for reason = record { reason = reason; layer = Watch; entry = 0 }

-- The answer that a call is refused for a reason.
abbrev pub refused_for : Reason → Answer
refused_for reason = Err (refusal_for reason)

-- Whether an access finds a mark: one is held with its fields and mode, or one is vacant.
abbrev pub has_place : List ℕ → Mode → List MarkMeant → Bool
has_place fs mode ms = cond (list_any (is_held_of fs mode) ms) true (list_any is_vacant ms)

-- The verdict on a commit, by whether its bay links to itself.
abbrev pub verdict_on : Bool → Verdict
verdict_on true = Crossed
verdict_on false = Clean

-- The answer to an event in bay b, by the state of the bay and the event together.
abbrev pub answer_in : BayState → Event (List ℕ) → ℕ → State → Answer
answer_in Idle Begin b s = Ok Done
answer_in Idle Commit b s = refused_for BayIdle
answer_in Idle Abort b s = refused_for BayIdle
answer_in Idle (Event.Access m fs) b s = refused_for BayIdle
answer_in Open Begin b s = refused_for BayOpen
answer_in Open Commit b s = Ok (Committed (verdict_on (s.links b b)))
answer_in Open Abort b s = Ok Done
answer_in Open (Event.Access m fs) b s = cond (has_place fs m s.marks) (Ok Done) (refused_for NoVacantMark)

-- The answer to a call under a verdict: after a crossing, and where there is no such bay, it is refused.
abbrev pub answer_under : Verdict → Call → State → Answer
answer_under Crossed c s = refused_for AfterCrossing
answer_under Clean c s =
    cond (nat_lt c.bay s.bays) (answer_in (record_at s.records c.bay).state c.event c.bay s) (refused_for NoSuchBay)

-- The answer to a call.
abbrev pub answer_to : State → Call → Answer
answer_to s c = answer_under s.verdict c s

-- A call in bay b comes before a crossing, at a bay of the watch that is in this state.
pub record Takes (state : BayState) (s : State) (b : ℕ) : Type 0 where
  pub clean : s.verdict ≡ Clean
  pub within : b < s.bays
  pub state_is : (record_at s.records b).state ≡ state

-- The links with one to bay b from each bay of a set.
abbrev pub with_links_to : ℕ → ℕ → Links → Links
with_links_to b froms links p q = (q == b && bit froms p) || links p q

-- The links with one from each bay of a set to each bay of another.
abbrev pub with_links_between : ℕ → ℕ → Links → Links
with_links_between froms tos links p q = (bit froms p && bit tos q) || links p q

-- The links with one from each bay that links to b to each bay that b links to, and then without those of b.
abbrev pub joined_at : ℕ → Links → Links
joined_at b links = without_pairs_of (λ p q. links p q || (links p b && links b q)) b

-- The links after an effect in bay b.
abbrev pub links_after : (List ℕ → List ℕ → Bool) → (Mode → Mode → Bool) → Effect → ℕ → State → Links
links_after overlapping conflicting Nothing b s = s.links
links_after overlapping conflicting Begins b s = s.links
links_after overlapping conflicting (Accesses fs m) b s = with_links_to b (linked_by overlapping conflicting b fs m s.marks) s.links
links_after overlapping conflicting (Commits Clean) b s = joined_at b s.links
links_after overlapping conflicting (Commits Crossed) b s = s.links
links_after overlapping conflicting Aborts b s = without_pairs_of s.links b

-- The marks after an effect in bay b; where a vacant one is taken, which one is free.
abbrev pub MarksAfter : Effect → ℕ → State → List MarkMeant → Type 0
MarksAfter Nothing b s after = after ≡ s.marks
MarksAfter Begins b s after = after ≡ s.marks
MarksAfter (Accesses fs m) b s after = HoldStep b fs m s.marks true after
MarksAfter (Commits Clean) b s after = after ≡ all_handed_on b (bays_into s.links b) s.marks
MarksAfter (Commits Crossed) b s after = after ≡ s.marks
MarksAfter Aborts b s after = after ≡ all_left b s.marks

-- One more on a counter, which stops at 4,294,967,295.
abbrev pub counted : ℕ → ℕ
counted n = min (suc n) 4294967295

-- The record of a bay after an effect in it.
abbrev pub record_after : Effect → BayRecord → BayRecord
record_after Nothing r = r
record_after Begins r = record { state = Open; commits = r.commits; aborts = r.aborts }
record_after (Accesses fs m) r = r
record_after (Commits v) r = record { state = Idle; commits = counted r.commits; aborts = r.aborts }
record_after Aborts r = record { state = Idle; commits = r.commits; aborts = counted r.aborts }

-- The records of the bays after an effect in bay b.
abbrev pub records_after : Effect → ℕ → List BayRecord → List BayRecord
records_after Nothing b records = records
records_after Begins b records = slice_set records b (record_after Begins (record_at records b))
records_after (Accesses fs m) b records = records
records_after (Commits v) b records = slice_set records b (record_after (Commits v) (record_at records b))
records_after Aborts b records = slice_set records b (record_after Aborts (record_at records b))

-- The verdict after an effect.
abbrev pub verdict_after : Effect → Verdict → Verdict
verdict_after Nothing v = v
verdict_after Begins v = v
verdict_after (Accesses fs m) v = v
verdict_after (Commits Clean) v = v
verdict_after (Commits Crossed) v = Crossed
verdict_after Aborts v = v

-- The step of a call from a state: its answer, and the state after, by the effect that the event has with this answer.
pub record Step (overlapping : List ℕ → List ℕ → Bool) (conflicting : Mode → Mode → Bool) (s : State) (c : Call) (a : Answer) (after : State) : Type 0 where
  pub answer : a ≡ answer_to s c
  pub links : LinksAgree after.links (links_after overlapping conflicting (effect_of c.event a) c.bay s)
  pub marks : MarksAfter (effect_of c.event a) c.bay s after.marks
  pub records : after.records ≡ records_after (effect_of c.event a) c.bay s.records
  pub bays : after.bays ≡ s.bays
  pub verdict : after.verdict ≡ verdict_after (effect_of c.event a) s.verdict
