-- States that give the account of one history, with as many bays and marks, answer alike. Assumes nothing.
use Rattle.std.proofs.Common.{◌≡◌, ℕ, ◌<◌, Bool, true, false, cond, ltb, List, length, sym, refl, ap, ◌∙◌, arith, Ok}
use Rattle.std.proofs.lemmas.Bool.{cond_both, ltb-true}
use Rattle.std.proofs.lemmas.Bool.Decides.{same_from_decides}
use Rattle.items.specs.declared.entry.Event.{Event}
use Rattle.items.specs.declared.entry.Event.TheVariants.{Begin, Commit, Abort}
use Rattle.items.specs.declared.mode.Mode.{Mode}
use Rattle.items.specs.declared.refusal.Reason.TheVariants.{NoSuchBay, NoVacantMark}
use Rattle.watch.specs.Answers.{Answer}
use Rattle.watch.specs.declared.answer.Outcome.TheVariants.{Done, Committed}
use Rattle.watch.specs.Histories.{History, Call, is_open, has_crossed}
use Rattle.watch.specs.States.{State, record_at}
use Rattle.watch.specs.Steps.{refused_for, has_place, verdict_on, answer_in, answer_under, answer_to}
use Rattle.watch.specs.Accounts.{Account, state_when, verdict_when}
use Rattle.watch.proofs.HeldFacts.{held_of}
use Rattle.watch.proofs.Settling.{lists_held, place_settled}

-- Two tests that fail alike are the same.
same_when_false : (x y : Bool) → (x ≡ false → y ≡ false) → (y ≡ false → x ≡ false) → x ≡ y
same_when_false true true f g = refl
same_when_false true false f g = g refl
same_when_false false true f g = sym (f refl)
same_when_false false false f g = refl

module _ (overlapping : List ℕ → List ℕ → Bool) (conflicting : Mode → Mode → Bool) (h : History) (s t : State)
    (was : Account overlapping conflicting h s) (also : Account overlapping conflicting h t)
    (bays : s.bays ≡ t.bays) (marks : length s.marks ≡ length t.marks) where
  module _ (clean : has_crossed h ≡ false) where
    same_place : (fs : List ℕ) (m : Mode) → has_place fs m s.marks ≡ has_place fs m t.marks
    same_place fs m =
        let lists = lists_held overlapping conflicting h s was clean in
        let here = place_settled overlapping conflicting h s was clean (held_of s.marks) lists fs m in
        let there = place_settled overlapping conflicting h t also clean (held_of s.marks) lists fs m in
        same_when_false (has_place fs m s.marks) (has_place fs m t.marks)
        (λ e. let (none, full) = here.0 e in there.1 (none, full ∙ marks))
        (λ e. let (none, full) = there.0 e in here.1 (none, full ∙ sym marks))

    same_in : (b : ℕ) → b < s.bays → (e : Event (List ℕ)) (o : Bool) → answer_in (state_when o) e b s ≡ answer_in (state_when o) e b t
    same_in b low Begin true = refl
    same_in b low Begin false = refl
    same_in b low Commit true =
        let few = was.bays_are_few in let below : b < 32 = omega arith in
        ap (λ l. Ok (Committed (verdict_on l)))
        (same_from_decides (s.links b b) (t.links b b) (was.links_are_paths clean b b below below) (also.links_are_paths clean b b below below))
    same_in b low Commit false = refl
    same_in b low Abort true = refl
    same_in b low Abort false = refl
    same_in b low (Event.Access m fs) true = ap (λ x. cond x (Ok Done) (refused_for NoVacantMark)) (same_place fs m)
    same_in b low (Event.Access m fs) false = refl

  pub answers_agree : (c : Call) → answer_to s c ≡ answer_to t c
  answers_agree c =
      ap (λ v. answer_under v c s) was.verdict_is_crossed_once_a_commit_is
      ∙ at (has_crossed h) refl
      ∙ sym (ap (λ v. answer_under v c t) also.verdict_is_crossed_once_a_commit_is)
    where
      here : State → Answer
      here u = answer_in (record_at u.records c.bay).state c.event c.bay u

      in_bay : has_crossed h ≡ false → c.bay < s.bays → here s ≡ here t
      in_bay clean low =
          ap (λ x. answer_in x c.event c.bay s) (was.bays_are_open_as_in_the_history c.bay)
          ∙ same_in clean c.bay low c.event (is_open h c.bay)
          ∙ sym (ap (λ x. answer_in x c.event c.bay t) (also.bays_are_open_as_in_the_history c.bay))

      at : (o : Bool) → has_crossed h ≡ o → answer_under (verdict_when o) c s ≡ answer_under (verdict_when o) c t
      at true e = refl
      at false e =
          cond_both (ltb c.bay s.bays) (here s) (refused_for NoSuchBay) (λ x. x ≡ cond (ltb c.bay s.bays) (here t) (refused_for NoSuchBay))
          (λ l. in_bay e (ltb-true _ _ l) ∙ ap (λ x. cond x (here t) (refused_for NoSuchBay)) (sym l))
          (λ l. ap (λ x. cond x (here t) (refused_for NoSuchBay)) (sym l))
          ∙ ap (λ n. cond (ltb c.bay n) (here t) (refused_for NoSuchBay)) bays
