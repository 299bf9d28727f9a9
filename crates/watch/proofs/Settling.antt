-- The history settles when an access finds no mark. Assumes nothing.
use Rattle.std.proofs.Common.{◌≡◌, ℕ, ◌<◌, ◌≤◌, Bool, true, false, cond, ◌||◌, ltb, ◌↔◌, List, length, Decides, sym, refl, ap, ◌∙◌, inl, inr, ⊎_elim, arith, Ok}
use Rattle.std.proofs.lemmas.Bool.{both_ways, cond-true, le-ltb, lt-ltb, ltb-false, or_cases, or_left, or_right}
use Rattle.std.proofs.lemmas.Bool.Decides.{same_from_decides}
use Rattle.items.specs.declared.entry.Event.{Event}
use Rattle.items.specs.declared.mode.Mode.{Mode}
use Rattle.items.specs.declared.refusal.Reason.TheVariants.{NoSuchBay, NoVacantMark}
use Rattle.marks.specs.Marks.{is_vacant, is_held_of}
use Rattle.std.specs.List.{list_any}
use Rattle.marks.specs.Holding.{holds_own, holds_inherited, held_count}
use Rattle.marks.specs.Apart.{is_listed}
use Rattle.marks.proofs.CountLaws.{count_within, vacant_when_fewer, held_decides}
use Rattle.marks.proofs.ListedLaws.{listed_count}
use Rattle.watch.specs.declared.answer.Outcome.TheVariants.{Done}
use Rattle.watch.specs.Histories.{History, Call, is_open, has_crossed}
use Rattle.watch.specs.States.{State, record_at}
use Rattle.watch.specs.Steps.{refused_for, has_place, answer_in, answer_under, answer_to}
use Rattle.watch.specs.Accounts.{Account, state_when, verdict_when}
use Rattle.watch.specs.Vacancy.{HeldInHistory, ListsHeld, VacancySettled}
use Rattle.watch.proofs.AnswerFacts.{is_refused}
use Rattle.watch.proofs.HeldFacts.{held_of, held_listed, held_once}

module _ (overlapping : List ℕ → List ℕ → Bool) (conflicting : Mode → Mode → Bool) (h : History) (s : State)
    (was : Account overlapping conflicting h s) (clean : has_crossed h ≡ false) where
  -- What marks are held with is what is held by the history.
  held_in_history : (fs : List ℕ) (m : Mode) → Decides (list_any (is_held_of fs m) s.marks) (HeldInHistory overlapping conflicting h fs m)
  held_in_history fs m = (λ e. go (decides.0 e), λ r. decides.1 (back r))
    where
      decides : Decides (list_any (is_held_of fs m) s.marks) ((b : ℕ) × (b < 32) × ((holds_own s.marks b fs m || holds_inherited s.marks b fs m) ≡ true))
      decides = held_decides fs m s.marks was.only_bays_hold_marks

      go : (b : ℕ) × (b < 32) × ((holds_own s.marks b fs m || holds_inherited s.marks b fs m) ≡ true) → HeldInHistory overlapping conflicting h fs m
      go (b, low, e) =
          ⊎_elim
          (λ own. let (o, made) = (was.own_marks_are_accesses_of_the_open_transaction clean b low fs m).0 own in (b, o, inl made))
          (λ inherited. let (o, r) = (was.inherited_marks_are_accesses_that_paths_reach clean b low fs m).0 inherited in (b, o, inr r))
          (or_cases (holds_own s.marks b fs m) (holds_inherited s.marks b fs m) e)

      below : (b : ℕ) → is_open h b ≡ true → b < 32
      below b o = let low = was.open_bays_are_bays b o in let few = was.bays_are_few in omega arith

      back : HeldInHistory overlapping conflicting h fs m → (b : ℕ) × (b < 32) × ((holds_own s.marks b fs m || holds_inherited s.marks b fs m) ≡ true)
      back (b, o, e) = (
        b,
        below b o,
        ⊎_elim
            (λ made. or_left _ (holds_inherited s.marks b fs m) ((was.own_marks_are_accesses_of_the_open_transaction clean b (below b o) fs m).1 (o, made)))
            (λ r. or_right (holds_own s.marks b fs m) _ ((was.inherited_marks_are_accesses_that_paths_reach clean b (below b o) fs m).1 (o, r)))
            e,
      )

  pub lists_held : ListsHeld overlapping conflicting h (held_of s.marks)
  lists_held =
      record {
        once = held_once s.marks was.held_marks_are_told_apart;
        exactly =
            λ fs m. let e = held_listed s.marks fs m in
            (λ l. (held_in_history fs m).0 (sym e ∙ l), λ r. e ∙ (held_in_history fs m).1 r);
      }

  module _ (held : List (List ℕ × Mode)) (lists : ListsHeld overlapping conflicting h held) where
    as_many : length held ≡ held_count s.marks
    as_many =
        listed_count s.marks held was.held_marks_are_told_apart lists.once
        (λ fs m. same_from_decides (is_listed held fs m) (list_any (is_held_of fs m) s.marks) (lists.exactly fs m) (held_in_history fs m))

    pub place_settled : (fs : List ℕ) (m : Mode) → (has_place fs m s.marks ≡ false) ↔
        ((HeldInHistory overlapping conflicting h fs m → ⊥) × (length held ≡ length s.marks))
    place_settled fs m = (λ e. go (list_any (is_held_of fs m) s.marks) refl e, λ (none, full). back (list_any (is_held_of fs m) s.marks) refl none full)
      where
        within : held_count s.marks ≤ length s.marks
        within = count_within s.marks

        go : (x : Bool) → list_any (is_held_of fs m) s.marks ≡ x → cond x true (list_any is_vacant s.marks) ≡ false →
            (HeldInHistory overlapping conflicting h fs m → ⊥) × (length held ≡ length s.marks)
        go true is e = absurd (both_ways true e refl)
        go false is e =
            let full = ltb-false (held_count s.marks) (length s.marks) (sym (vacant_when_fewer s.marks) ∙ e) in
            let many = as_many in let most = within in
            (λ r. both_ways (list_any (is_held_of fs m) s.marks) is ((held_in_history fs m).1 r), omega arith)

        back : (x : Bool) → list_any (is_held_of fs m) s.marks ≡ x → (HeldInHistory overlapping conflicting h fs m → ⊥) →
            length held ≡ length s.marks → cond x true (list_any is_vacant s.marks) ≡ false
        back true is none full = absurd (none ((held_in_history fs m).0 is))
        back false is none full =
            let many = as_many in vacant_when_fewer s.marks ∙ le-ltb (held_count s.marks) (length s.marks) (omega arith)

    refused-settled : (b : ℕ) → b < s.bays → is_open h b ≡ true → (fs : List ℕ) (m : Mode) →
        (answer_to s (record { bay = b; event = Event.Access m fs }) ≡ refused_for NoVacantMark) ↔
        ((HeldInHistory overlapping conflicting h fs m → ⊥) × (length held ≡ length s.marks))
    refused-settled b low o fs m =
        (λ e. (place_settled fs m).0 (refused (has_place fs m s.marks) (sym here ∙ e)), λ r. here ∙ ap (λ x. cond x (Ok Done) (refused_for NoVacantMark)) ((place_settled fs m).1 r))
      where
        c : Call
        c = record { bay = b; event = Event.Access m fs }

        here : answer_to s c ≡ cond (has_place fs m s.marks) (Ok Done) (refused_for NoVacantMark)
        here =
            ap (λ v. answer_under v c s) (was.verdict_is_crossed_once_a_commit_is ∙ ap verdict_when clean)
            ∙ cond-true (ltb b s.bays) (answer_in (record_at s.records b).state (Event.Access m fs) b s) (refused_for NoSuchBay) (lt-ltb b s.bays low)
            ∙ ap (λ st. answer_in st (Event.Access m fs) b s) (was.bays_are_open_as_in_the_history b ∙ ap state_when o)

        refused : (x : Bool) → cond x (Ok Done) (refused_for NoVacantMark) ≡ refused_for NoVacantMark → x ≡ false
        refused true e = absurd (both_ways (is_refused (Ok Done)) refl (ap is_refused e))
        refused false e = refl

pub vacancy_settled : (overlapping : List ℕ → List ℕ → Bool) (conflicting : Mode → Mode → Bool) (h : History) (s : State) →
    Account overlapping conflicting h s → VacancySettled overlapping conflicting h s
vacancy_settled overlapping conflicting h s was =
    record {
      listed = λ clean. (held_of s.marks, lists_held overlapping conflicting h s was clean);
      settled = λ clean held lists. refused-settled overlapping conflicting h s was clean held lists;
    }
