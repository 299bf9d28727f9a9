-- What a call's answer says of the state before it. Assumes nothing.
use Rattle.std.proofs.Common.{◌≡◌, ℕ, ◌<◌, Bool, true, false, cond, ltb, List, refl, ap, Ok, Err}
use Rattle.std.proofs.lemmas.Bool.{both_ways, ltb-true}
use Rattle.items.specs.declared.entry.Event.{Event}
use Rattle.items.specs.declared.entry.Event.TheVariants.{Begin, Commit}
use Rattle.items.specs.declared.mode.Mode.{Mode}
use Rattle.items.specs.declared.refusal.Reason.TheVariants.{NoSuchBay}
use Rattle.watch.specs.declared.answer.Verdict.{Verdict}
use Rattle.watch.specs.declared.answer.Verdict.TheVariants.{Clean, Crossed}
use Rattle.watch.specs.Answers.{Answer}
use Rattle.watch.specs.declared.answer.Outcome.TheVariants.{Done, Committed}
use Rattle.watch.specs.Histories.{Call}
use Rattle.watch.specs.States.{State, record_at}
use Rattle.watch.specs.Steps.{refused_for, verdict_on, answer_in, answer_under, answer_to}
use Rattle.watch.specs.Accounts.{state_when, verdict_when}

abbrev pub is_refused : Answer → Bool
is_refused (Ok Done) = false
is_refused (Ok (Committed v)) = false
is_refused (Err r) = true

-- A call that is not refused comes before a crossing, at a bay of the watch, and is answered by the bay's state and the event.
pub passed : (s : State) (c : Call) (a : Answer) → a ≡ answer_to s c → is_refused a ≡ false →
    (s.verdict ≡ Clean) × (c.bay < s.bays) × (a ≡ answer_in (record_at s.records c.bay).state c.event c.bay s)
passed s c a e taken = at s.verdict (ltb c.bay s.bays) refl refl e
  where
    here : Answer
    here = answer_in (record_at s.records c.bay).state c.event c.bay s

    clean : (l : Bool) → s.verdict ≡ Clean → ltb c.bay s.bays ≡ l → a ≡ cond l here (refused_for NoSuchBay) →
        (s.verdict ≡ Clean) × (c.bay < s.bays) × (a ≡ here)
    clean true v l e = (v, ltb-true _ _ l, e)
    clean false v l e = absurd (both_ways (is_refused a) taken (ap is_refused e))

    at : (v : Verdict) (l : Bool) → s.verdict ≡ v → ltb c.bay s.bays ≡ l → a ≡ answer_under v c s →
        (s.verdict ≡ Clean) × (c.bay < s.bays) × (a ≡ here)
    at Clean l v k e = clean (ltb c.bay s.bays) v refl e
    at Crossed l v k e = absurd (both_ways (is_refused a) taken (ap is_refused e))

-- By the bay: a begin is taken when it is idle, any other event when it is open.
pub begin_taken : (o : Bool) (a : Answer) (b : ℕ) (s : State) → is_refused a ≡ false → a ≡ answer_in (state_when o) Begin b s → o ≡ false
begin_taken true a b s taken e = absurd (both_ways (is_refused a) taken (ap is_refused e))
begin_taken false a b s taken e = refl

pub commit_taken : (o : Bool) (a : Answer) (b : ℕ) (s : State) → is_refused a ≡ false → a ≡ answer_in (state_when o) Commit b s →
    (o ≡ true) × (a ≡ Ok (Committed (verdict_on (s.links b b))))
commit_taken true a b s taken e = (refl, e)
commit_taken false a b s taken e = absurd (both_ways (is_refused a) taken (ap is_refused e))

pub access_taken : (o : Bool) (a : Answer) (b : ℕ) (s : State) (m : Mode) (fs : List ℕ) → is_refused a ≡ false →
    a ≡ answer_in (state_when o) (Event.Access m fs) b s → o ≡ true
access_taken true a b s m fs taken e = refl
access_taken false a b s m fs taken e = absurd (both_ways (is_refused a) taken (ap is_refused e))

-- The verdict on a commit tells whether its bay links to itself.
pub clean_unlinked : (l : Bool) → ◌≡◌ {A = Answer} (Ok (Committed Clean)) (Ok (Committed (verdict_on l))) → l ≡ false
clean_unlinked true e = cc
clean_unlinked false e = refl

pub crossed_linked : (l : Bool) → ◌≡◌ {A = Answer} (Ok (Committed Crossed)) (Ok (Committed (verdict_on l))) → l ≡ true
crossed_linked true e = refl
crossed_linked false e = cc

-- While the verdict is Clean no commit has crossed.
pub uncrossed : (o : Bool) (v : Verdict) → v ≡ Clean → v ≡ verdict_when o → o ≡ false
uncrossed true v clean e = cc
uncrossed false v clean e = refl
