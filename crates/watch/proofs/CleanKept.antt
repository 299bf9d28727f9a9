-- A commit that is Clean keeps the account: what led to its transaction now leads through it. Assumes nothing.
use Rattle.std.proofs.Common.{◌≡◌, ℕ, ◌<◌, Bool, true, false, ◌&&◌, ◌||◌, ◌⊎◌, ◌↔◌, List, sym, ap, ◌∙◌, subst, inl, inr, ⊎_elim, Ok}
use Rattle.std.proofs.lemmas.Bool.{and_from, and_parts, both_ways, lt-ltb, or_cases, or_left, or_right}
use Rattle.items.specs.declared.mode.Mode.{Mode}
use Rattle.serial.specs.Accesses.{Transaction}
use Rattle.serial.specs.Paths.{Cycle}
use Rattle.serial.proofs.Effects.{path_adds, reaches_adds}
use Rattle.serial.proofs.SameTransaction.{same_transaction_lem}
use Rattle.serial.proofs.Serializing.{no_cycle_serializable}
use Rattle.boards.specs.BaySets.{bit}
use Rattle.boards.specs.Boards.{bays_into}
use Rattle.boards.proofs.BoardLaws.{bit_into}
use Rattle.marks.specs.Holding.{holds_own, holds_inherited}
use Rattle.marks.specs.Apart.{told_apart, OnlyBays}
use Rattle.marks.proofs.HoldsLaws.{hand_on_own, hand_on_inherited}
use Rattle.marks.proofs.ApartLaws.{hand_on_apart, hand_on_bays}
use Rattle.watch.specs.declared.answer.Verdict.TheVariants.{Clean}
use Rattle.watch.specs.declared.answer.Outcome.TheVariants.{Committed}
use Rattle.watch.specs.Histories.{History, made_by, is_open, open_transaction, is_committed, accesses, committed_accesses, has_crossed, conflict}
use Rattle.watch.specs.States.{State}
use Rattle.watch.specs.Steps.{Step}
use Rattle.watch.specs.Accounts.{Account, Path, MadeAccess, ReachesAccess}
use Rattle.watch.proofs.HistoryFacts.{still_open}
use Rattle.watch.proofs.EndedFacts.{held_past, linked_past, numbered_past}
use Rattle.watch.proofs.AnswerFacts.{clean_unlinked}
use Rattle.watch.proofs.CommitFacts.{commit_of, committed_to, commit_adds, commit_in_bay, commit_below, commit_open, commit_verdict, commit_cycle}
use Rattle.watch.proofs.TableKept.{TableAccount, table_kept}

module _ (overlapping : List ℕ → List ℕ → Bool) (conflicting : Mode → Mode → Bool) (h : History) (s t : State) (b : ℕ)
    (was : Account overlapping conflicting h s) (step : Step overlapping conflicting s (commit_of b) (Ok (Committed Clean)) t) where
  abbrev after : History
  after = committed_to Clean b h

  in_bay : b < s.bays
  in_bay = commit_in_bay overlapping conflicting h s t b Clean was step

  below : b < 32
  below = commit_below overlapping conflicting h s t b Clean was step

  is_open_lem : is_open h b ≡ true
  is_open_lem = commit_open overlapping conflicting h s t b Clean was step

  no_cycle : Cycle made_by (conflict overlapping conflicting) (committed_accesses after) → ⊥
  no_cycle c =
      both_ways (s.links b b) (clean_unlinked (s.links b b) (commit_verdict overlapping conflicting h s t b Clean was step))
      ((commit_cycle overlapping conflicting h s t b Clean was step).0 c)

  path_after : (u v : Transaction) → Path overlapping conflicting after u v ↔
      (Path overlapping conflicting h u v ⊎ (Path overlapping conflicting h u (open_transaction h b) × Path overlapping conflicting h (open_transaction h b) v))
  path_after u v =
      path_adds made_by (conflict overlapping conflicting) (is_committed h) (is_committed after) (open_transaction h b) (commit_adds Clean b h) (accesses h) u v

  reaches_after : (fs : List ℕ) (m : Mode) (u : Transaction) → ReachesAccess overlapping conflicting after fs m u ↔
      (ReachesAccess overlapping conflicting h fs m u ⊎ (Path overlapping conflicting h u (open_transaction h b) ×
      (MadeAccess h fs m (open_transaction h b) ⊎ ReachesAccess overlapping conflicting h fs m (open_transaction h b))))
  reaches_after fs m u =
      reaches_adds made_by (conflict overlapping conflicting) (is_committed h) (is_committed after) (open_transaction h b) (commit_adds Clean b h) (MadeAccess h fs m) (accesses h) u

  -- Between other bays, a link stands exactly when it stood or two led through b.
  joined : has_crossed h ≡ false → (p q : ℕ) → p < 32 → q < 32 → ((s.links p q || (s.links p b && s.links b q)) ≡ true) ↔
      ((is_open h p ≡ true) × (is_open h q ≡ true) × Path overlapping conflicting after (open_transaction h p) (open_transaction h q))
  joined clean p q lp lq = (λ e. go (or_cases _ _ e), λ r. back r.0 r.1 ((path_after (open_transaction h p) (open_transaction h q)).0 r.2))
    where
      go : (s.links p q ≡ true) ⊎ ((s.links p b && s.links b q) ≡ true) →
          (is_open h p ≡ true) × (is_open h q ≡ true) × Path overlapping conflicting after (open_transaction h p) (open_transaction h q)
      go (inl l) =
          let (op, oq, path) = (was.links_are_paths clean p q lp lq).0 l in
          (op, oq, (path_after (open_transaction h p) (open_transaction h q)).1 (inl path))
      go (inr l) =
          let (into, out) = and_parts (s.links p b) (s.links b q) l in
          let (op, _, first) = (was.links_are_paths clean p b lp below).0 into in
          let (_, oq, second) = (was.links_are_paths clean b q below lq).0 out in
          (op, oq, (path_after (open_transaction h p) (open_transaction h q)).1 (inr (first, second)))

      back : is_open h p ≡ true → is_open h q ≡ true → Path overlapping conflicting h (open_transaction h p) (open_transaction h q) ⊎
          (Path overlapping conflicting h (open_transaction h p) (open_transaction h b) × Path overlapping conflicting h (open_transaction h b) (open_transaction h q)) →
          (s.links p q || (s.links p b && s.links b q)) ≡ true
      back op oq (inl path) = or_left _ (s.links p b && s.links b q) ((was.links_are_paths clean p q lp lq).1 (op, oq, path))
      back op oq (inr (first, second)) =
          or_right (s.links p q) _
          (and_from _ _ ((was.links_are_paths clean p b lp below).1 (op, is_open_lem, first)) ((was.links_are_paths clean b q below lq).1 (is_open_lem, oq, second)))

  -- In another bay, a mark is inherited exactly when it was, or when b held it and the bay linked to b.
  handed : has_crossed h ≡ false → (k : ℕ) → k < 32 → (fs : List ℕ) (m : Mode) →
      ((holds_inherited s.marks k fs m || (bit (bays_into s.links b) k && (holds_own s.marks b fs m || holds_inherited s.marks b fs m))) ≡ true) ↔
      ((is_open h k ≡ true) × ReachesAccess overlapping conflicting after fs m (open_transaction h k))
  handed clean k low fs m = (λ e. go (or_cases _ _ e), λ r. back r.0 ((reaches_after fs m (open_transaction h k)).0 r.1))
    where
      own : (holds_own s.marks b fs m ≡ true) ↔ ((is_open h b ≡ true) × MadeAccess h fs m (open_transaction h b))
      own = was.own_marks_are_accesses_of_the_open_transaction clean b below fs m

      inherited : (j : ℕ) → j < 32 → (holds_inherited s.marks j fs m ≡ true) ↔ ((is_open h j ≡ true) × ReachesAccess overlapping conflicting h fs m (open_transaction h j))
      inherited j l = was.inherited_marks_are_accesses_that_paths_reach clean j l fs m

      taker : bit (bays_into s.links b) k ≡ s.links k b
      taker = bit_into s.links b k ∙ ap (λ x. x && s.links k b) (lt-ltb k 32 low)

      go : (holds_inherited s.marks k fs m ≡ true) ⊎ ((bit (bays_into s.links b) k && (holds_own s.marks b fs m || holds_inherited s.marks b fs m)) ≡ true) →
          (is_open h k ≡ true) × ReachesAccess overlapping conflicting after fs m (open_transaction h k)
      go (inl e) = let (o, r) = (inherited k low).0 e in (o, (reaches_after fs m (open_transaction h k)).1 (inl r))
      go (inr e) =
          let (into, held) = and_parts (bit (bays_into s.links b) k) (holds_own s.marks b fs m || holds_inherited s.marks b fs m) e in
          let (o, _, path) = (was.links_are_paths clean k b low below).0 (sym taker ∙ into) in (
            o,
            (reaches_after fs m (open_transaction h k)).1
                (inr (path, ⊎_elim (λ x. inl (own.0 x).1) (λ x. inr ((inherited b below).0 x).1) (or_cases (holds_own s.marks b fs m) (holds_inherited s.marks b fs m) held))),
          )

      held_by : MadeAccess h fs m (open_transaction h b) ⊎ ReachesAccess overlapping conflicting h fs m (open_transaction h b) →
          (holds_own s.marks b fs m || holds_inherited s.marks b fs m) ≡ true
      held_by (inl made) = or_left _ (holds_inherited s.marks b fs m) (own.1 (is_open_lem, made))
      held_by (inr r) = or_right (holds_own s.marks b fs m) _ ((inherited b below).1 (is_open_lem, r))

      back : is_open h k ≡ true → ReachesAccess overlapping conflicting h fs m (open_transaction h k) ⊎ (Path overlapping conflicting h (open_transaction h k) (open_transaction h b) ×
          (MadeAccess h fs m (open_transaction h b) ⊎ ReachesAccess overlapping conflicting h fs m (open_transaction h b))) →
          (holds_inherited s.marks k fs m || (bit (bays_into s.links b) k && (holds_own s.marks b fs m || holds_inherited s.marks b fs m))) ≡ true
      back o (inl r) = or_left _ (bit (bays_into s.links b) k && (holds_own s.marks b fs m || holds_inherited s.marks b fs m)) ((inherited k low).1 (o, r))
      back o (inr (path, held)) =
          or_right (holds_inherited s.marks k fs m) _ (and_from _ _ (taker ∙ (was.links_are_paths clean k b low below).1 (o, is_open_lem, path)) (held_by held))

  table : TableAccount after t
  table = table_kept overlapping conflicting h s t (commit_of b) (Ok (Committed Clean)) was step in_bay

  pub clean_kept : Account overlapping conflicting after t
  clean_kept =
      record {
        bays_are_open_as_in_the_history = table.states;
        commits_are_counted = table.commits;
        aborts_are_counted = table.aborts;
        verdict_is_crossed_once_a_commit_is = step.verdict ∙ was.verdict_is_crossed_once_a_commit_is;
        every_commit_is_right =
            (no_cycle_serializable same_transaction_lem made_by (conflict overlapping conflicting) (committed_accesses after) no_cycle, was.every_commit_is_right);
        links_are_paths =
            λ clean p q lp lq. linked_past h b (Path overlapping conflicting after) p q _ _ (step.links p q lp lq) (joined clean p q lp lq);
        own_marks_are_accesses_of_the_open_transaction =
            λ clean k lk fs m.
            held_past h b (MadeAccess h fs m) k _ _ (ap (λ ms. holds_own ms k fs m) step.marks ∙ hand_on_own k fs m lk b (bays_into s.links b) s.marks)
            (was.own_marks_are_accesses_of_the_open_transaction clean k lk fs m);
        inherited_marks_are_accesses_that_paths_reach =
            λ clean k lk fs m.
            held_past h b (ReachesAccess overlapping conflicting after fs m) k _ _ (ap (λ ms. holds_inherited ms k fs m) step.marks ∙ hand_on_inherited k fs m lk b (bays_into s.links b) s.marks)
            (handed clean k lk fs m);
        held_marks_are_told_apart = ap told_apart step.marks ∙ hand_on_apart b (bays_into s.links b) s.marks was.held_marks_are_told_apart;
        only_bays_hold_marks = subst OnlyBays (sym step.marks) (hand_on_bays b (bays_into s.links b) s.marks was.only_bays_hold_marks);
        open_bays_are_bays = λ k o. subst (λ n. k < n) (sym step.bays) (was.open_bays_are_bays k ((still_open k b _).0 o).1);
        bays_are_few = table.few;
        bays_have_records = table.room;
        accesses_are_numbered = numbered_past h b was.accesses_are_numbered;
        committed_have_no_cycle = λ clean. no_cycle;
      }
