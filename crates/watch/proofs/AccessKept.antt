-- An access keeps the account: it adds paths into its own transaction alone, from those that hold a mark against it. Assumes nothing.
use Rattle.std.proofs.Common.{◌≡◌, ℕ, ◌<◌, Bool, true, false, not, ◌&&◌, ◌||◌, eqb, ◌⊎◌, ◌↔◌, List, ◌∷◌, sym, refl, ap, ◌∙◌, subst, inl, inr, ⊎_elim, Ok}
use Rattle.std.proofs.lemmas.Bool.{and_from, and_parts, cases_Bool, eq-eqb, eqb-false, eqb-true, ne_eqb, not-true, or_cases, or_left, or_right}
use Rattle.items.specs.declared.entry.Event.{Event}
use Rattle.items.specs.declared.mode.Mode.{Mode}
use Rattle.serial.specs.Accesses.{Transaction}
use Rattle.serial.specs.Paths.{In, Cycle}
use Rattle.serial.specs.Changes.{MadeConflicting, Reaches}
use Rattle.serial.proofs.ListFacts.{some_push}
use Rattle.serial.proofs.Effects.{path_push, reaches_push, made_push}
use Rattle.boards.specs.BaySets.{bit}
use Rattle.marks.specs.Marks.{same_access}
use Rattle.marks.specs.Holding.{holds_own, holds_inherited}
use Rattle.marks.specs.Against.{linked_by}
use Rattle.marks.proofs.AgainstLaws.{linked_decides}
use Rattle.marks.proofs.HoldEffects.{hold_own, hold_inherited}
use Rattle.marks.proofs.ApartLaws.{hold_apart, hold_bays}
use Rattle.watch.specs.declared.answer.Outcome.TheVariants.{Done}
use Rattle.watch.specs.Histories.{History, Call, Access, made_by, is_open, open_transaction, is_committed, accesses, has_crossed, conflict}
use Rattle.watch.specs.States.{State}
use Rattle.watch.specs.Steps.{Step, answer_in}
use Rattle.watch.specs.Accounts.{Account, Path, MadeAccess, ReachesAccess, is_access_to, Numbered}
use Rattle.watch.proofs.HistoryFacts.{open_uncommitted, every_push}
use Rattle.watch.proofs.AnswerFacts.{passed, access_taken}
use Rattle.watch.proofs.AccessFacts.{kept_push, made_conflicting, conflicting_made}
use Rattle.watch.proofs.TableKept.{TableAccount, table_kept}

abbrev access_of : ℕ → List ℕ → Mode → Call
access_of b fs m = record { bay = b; event = Event.Access m fs }

module _ (overlapping : List ℕ → List ℕ → Bool) (conflicting : Mode → Mode → Bool)
    (mutual-overlap : (fs gs : List ℕ) → overlapping fs gs ≡ overlapping gs fs)
    (mutual-conflict : (m n : Mode) → conflicting m n ≡ conflicting n m)
    (h : History) (s t : State) (b : ℕ) (fs : List ℕ) (m : Mode)
    (was : Account overlapping conflicting h s) (step : Step overlapping conflicting s (access_of b fs m) (Ok Done) t) where
  in_bay : b < s.bays
  in_bay = (passed s (access_of b fs m) (Ok Done) step.answer refl).1

  is_open_lem : is_open h b ≡ true
  is_open_lem =
      access_taken (is_open h b) (Ok Done) b s m fs refl
      ((passed s (access_of b fs m) (Ok Done) step.answer refl).2 ∙ ap (λ x. answer_in x (Event.Access m fs) b s) (was.bays_are_open_as_in_the_history b))

  abbrev after : History
  after = (access_of b fs m, Ok Done) ∷ h

  abbrev new : Access
  new = record { transaction = open_transaction h b; fields = fs; mode = m }

  barred : In (is_committed h) (made_by new) → ⊥
  barred = open_uncommitted h b

  uncommitted : is_committed h (open_transaction h b) ≡ false
  uncommitted = ⊎_elim (λ e. absurd (barred e)) (λ e. e) (cases_Bool (is_committed h (open_transaction h b)))

  -- A transaction made an access that conflicts with the new one, or reaches a committed one that did.
  abbrev Meets : Transaction → Type 0
  Meets u =
      MadeConflicting made_by (conflict overlapping conflicting) new (accesses h) u ⊎
      Reaches made_by (conflict overlapping conflicting) (accesses h) (is_committed h)
      (MadeConflicting made_by (conflict overlapping conflicting) new (accesses h)) u

  -- The bays that hold a mark against the access are those whose open transactions do so.
  links_new : has_crossed h ≡ false → (k : ℕ) → k < 32 →
      (bit (linked_by overlapping conflicting b fs m s.marks) k ≡ true) ↔ ((is_open h k ≡ true) × Meets (open_transaction h k))
  links_new clean k low = (λ e. go (decides.0 e), λ r. decides.1 (back r.0 r.1))
    where
      decides : (bit (linked_by overlapping conflicting b fs m s.marks) k ≡ true) ↔ ((gs : List ℕ) × (other : Mode) × ((overlapping fs gs && conflicting m other) ≡ true) × ((holds_inherited s.marks k gs other || (not (eqb k b) && holds_own s.marks k gs other)) ≡ true))
      decides = linked_decides overlapping conflicting b fs m k low s.marks

      go : (gs : List ℕ) × (other : Mode) × ((overlapping fs gs && conflicting m other) ≡ true) × ((holds_inherited s.marks k gs other || (not (eqb k b) && holds_own s.marks k gs other)) ≡ true) →
          (is_open h k ≡ true) × Meets (open_transaction h k)
      go (gs, other, against, held) =
          ⊎_elim
          (λ e.
          let (o, (u, c, p, made)) = (was.inherited_marks_are_accesses_that_paths_reach clean k low gs other).0 e in
          (o, inr (u, c, p, made_conflicting overlapping conflicting mutual-overlap mutual-conflict (accesses h) new u (λ own. barred (subst (In (is_committed h)) own c)) gs other against made)))
          (λ e.
          let (ne, own) = and_parts (not (eqb k b)) (holds_own s.marks k gs other) e in
          let (o, made) = (was.own_marks_are_accesses_of_the_open_transaction clean k low gs other).0 own in
          (o, inl (made_conflicting overlapping conflicting mutual-overlap mutual-conflict (accesses h) new (open_transaction h k) (λ e. eqb-false k b (not-true (eqb k b) ne) (ap (λ u. u.bay) e)) gs other against made)))
          (or_cases (holds_inherited s.marks k gs other) (not (eqb k b) && holds_own s.marks k gs other) held)

      back : is_open h k ≡ true → Meets (open_transaction h k) →
          (gs : List ℕ) × (other : Mode) × ((overlapping fs gs && conflicting m other) ≡ true) × ((holds_inherited s.marks k gs other || (not (eqb k b) && holds_own s.marks k gs other)) ≡ true)
      back o (inl met) =
          let (gs, other, against, made, differ) = conflicting_made overlapping conflicting mutual-overlap mutual-conflict (accesses h) new (open_transaction h k) met in
          (gs, other, against, or_right (holds_inherited s.marks k gs other) _ (and_from _ _ (ap not (ne_eqb k b (λ e. differ (ap (open_transaction h) e)))) ((was.own_marks_are_accesses_of_the_open_transaction clean k low gs other).1 (o, made))))
      back o (inr (u, c, p, met)) =
          let (gs, other, against, made, differ) = conflicting_made overlapping conflicting mutual-overlap mutual-conflict (accesses h) new u met in
          (gs, other, against, or_left _ (not (eqb k b) && holds_own s.marks k gs other) ((was.inherited_marks_are_accesses_that_paths_reach clean k low gs other).1 (o, (u, c, p, made))))

  path_after : (u v : Transaction) → Path overlapping conflicting after u v ↔ (Path overlapping conflicting h u v ⊎ ((v ≡ open_transaction h b) × Meets u))
  path_after u v = path_push made_by (conflict overlapping conflicting) (In (is_committed h)) (accesses h) new barred u v

  links_kept : has_crossed h ≡ false → (p q : ℕ) → p < 32 → q < 32 →
      (t.links p q ≡ true) ↔ ((is_open h p ≡ true) × (is_open h q ≡ true) × Path overlapping conflicting after (open_transaction h p) (open_transaction h q))
  links_kept clean p q lp lq = (λ k. go (or_cases _ _ (sym e ∙ k)), λ r. e ∙ back r.0 r.1 ((path_after (open_transaction h p) (open_transaction h q)).0 r.2))
    where
      froms : ℕ
      froms = linked_by overlapping conflicting b fs m s.marks

      e : t.links p q ≡ ((eqb q b && bit froms p) || s.links p q)
      e = step.links p q lp lq

      go : ((eqb q b && bit froms p) ≡ true) ⊎ (s.links p q ≡ true) →
          (is_open h p ≡ true) × (is_open h q ≡ true) × Path overlapping conflicting after (open_transaction h p) (open_transaction h q)
      go (inl k) =
          let (here, one) = and_parts (eqb q b) (bit froms p) k in let same = eqb-true q b here in
          let (o, meets) = (links_new clean p lp).0 one in
          (o, ap (is_open h) same ∙ is_open_lem, (path_after (open_transaction h p) (open_transaction h q)).1 (inr (ap (open_transaction h) same, meets)))
      go (inr k) =
          let (op, oq, path) = (was.links_are_paths clean p q lp lq).0 k in
          (op, oq, (path_after (open_transaction h p) (open_transaction h q)).1 (inl path))

      back : is_open h p ≡ true → is_open h q ≡ true →
          Path overlapping conflicting h (open_transaction h p) (open_transaction h q) ⊎ ((open_transaction h q ≡ open_transaction h b) × Meets (open_transaction h p)) →
          ((eqb q b && bit froms p) || s.links p q) ≡ true
      back op oq (inl path) = or_right (eqb q b && bit froms p) _ ((was.links_are_paths clean p q lp lq).1 (op, oq, path))
      back op oq (inr (same, meets)) =
          or_left _ (s.links p q) (and_from _ _ (eq-eqb q b (ap (λ u. u.bay) same)) ((links_new clean p lp).1 (op, meets)))

  own_kept : has_crossed h ≡ false → (k : ℕ) → k < 32 → (gs : List ℕ) (other : Mode) →
      (holds_own t.marks k gs other ≡ true) ↔ ((is_open h k ≡ true) × MadeAccess after gs other (open_transaction h k))
  own_kept clean k low gs other = (λ l. go (or_cases _ _ (sym e ∙ l)), λ r. e ∙ back r.0 (push.0 r.1))
    where
      e : holds_own t.marks k gs other ≡ ((eqb k b && same_access fs m gs other) || holds_own s.marks k gs other)
      e = hold_own b fs m s.marks t.marks gs other step.marks k low

      push : MadeAccess after gs other (open_transaction h k) ↔
          (MadeAccess h gs other (open_transaction h k) ⊎ ((open_transaction h b ≡ open_transaction h k) × (same_access fs m gs other ≡ true)))
      push = some_push (λ x. (made_by x ≡ open_transaction h k) × (is_access_to gs other x ≡ true)) (accesses h) new

      old : (holds_own s.marks k gs other ≡ true) ↔ ((is_open h k ≡ true) × MadeAccess h gs other (open_transaction h k))
      old = was.own_marks_are_accesses_of_the_open_transaction clean k low gs other

      go : ((eqb k b && same_access fs m gs other) ≡ true) ⊎ (holds_own s.marks k gs other ≡ true) →
          (is_open h k ≡ true) × MadeAccess after gs other (open_transaction h k)
      go (inl l) =
          let (here, same) = and_parts (eqb k b) (same_access fs m gs other) l in let at = eqb-true k b here in
          (ap (is_open h) at ∙ is_open_lem, push.1 (inr (sym (ap (open_transaction h) at), same)))
      go (inr l) = let (o, made) = old.0 l in (o, push.1 (inl made))

      back : is_open h k ≡ true → MadeAccess h gs other (open_transaction h k) ⊎ ((open_transaction h b ≡ open_transaction h k) × (same_access fs m gs other ≡ true)) →
          ((eqb k b && same_access fs m gs other) || holds_own s.marks k gs other) ≡ true
      back o (inl made) = or_right (eqb k b && same_access fs m gs other) _ (old.1 (o, made))
      back o (inr (at, same)) = or_left _ (holds_own s.marks k gs other) (and_from _ _ (eq-eqb k b (ap (λ u. u.bay) (sym at))) same)

  reaches_after : (gs : List ℕ) (other : Mode) (u : Transaction) →
      ReachesAccess overlapping conflicting after gs other u ↔ ReachesAccess overlapping conflicting h gs other u
  reaches_after gs other u =
      reaches_push made_by (conflict overlapping conflicting) (is_committed h) (MadeAccess h gs other) (MadeAccess after gs other)
      (λ v c. made_push made_by (is_access_to gs other) (accesses h) new v (λ own. barred (subst (In (is_committed h)) (sym own) c)))
      (accesses h) new barred u

  table : TableAccount after t
  table = table_kept overlapping conflicting h s t (access_of b fs m) (Ok Done) was step in_bay

  pub access_kept : Account overlapping conflicting after t
  access_kept =
      record {
        bays_are_open_as_in_the_history = table.states;
        commits_are_counted = table.commits;
        aborts_are_counted = table.aborts;
        verdict_is_crossed_once_a_commit_is = step.verdict ∙ was.verdict_is_crossed_once_a_commit_is;
        every_commit_is_right = (tt, was.every_commit_is_right);
        links_are_paths = links_kept;
        own_marks_are_accesses_of_the_open_transaction = own_kept;
        inherited_marks_are_accesses_that_paths_reach =
            λ clean k low gs other.
            let old = was.inherited_marks_are_accesses_that_paths_reach clean k low gs other in
            let e = hold_inherited b fs m s.marks t.marks gs other step.marks k in (
              λ l. let (o, r) = old.0 (sym e ∙ l) in (o, (reaches_after gs other (open_transaction h k)).1 r),
              λ (o, r). e ∙ old.1 (o, (reaches_after gs other (open_transaction h k)).0 r),
            );
        held_marks_are_told_apart = hold_apart b fs m s.marks t.marks true step.marks was.held_marks_are_told_apart;
        only_bays_hold_marks = hold_bays b fs m s.marks t.marks true step.marks was.only_bays_hold_marks;
        open_bays_are_bays = λ k o. subst (λ n. k < n) (sym step.bays) (was.open_bays_are_bays k o);
        bays_are_few = table.few;
        bays_have_records = table.room;
        accesses_are_numbered = every_push (Numbered h) (accesses h) new was.accesses_are_numbered (inr (refl, is_open_lem));
        committed_have_no_cycle =
            λ clean. subst (λ l. Cycle made_by (conflict overlapping conflicting) l → ⊥)
            (sym (kept_push made_by (is_committed h) (accesses h) new uncommitted)) (was.committed_have_no_cycle clean);
      }
