-- A watch just opened gives the account of the empty history. Assumes nothing.
use Rattle.std.proofs.Common.{◌≡◌, ℕ, zero, suc, ◌≤◌, Bool, false, List, [], get_or, replicate, refl, ap}
use Rattle.std.proofs.lemmas.Bool.{both_ways}
use Rattle.items.specs.declared.mode.Mode.{Mode}
use Rattle.serial.proofs.PathFacts.{path_start}
use Rattle.marks.specs.Marks.{MarkMeant}
use Rattle.marks.proofs.HoldsLaws.{opened_own, opened_inherited}
use Rattle.marks.proofs.ApartLaws.{opened_apart, opened_bays}
use Rattle.watch.specs.States.{opened_state, fresh_record, record_at}
use Rattle.watch.specs.Accounts.{Account}

replicated : {A : Type 0} (n b : ℕ) (x : A) → get_or (replicate n x) b x ≡ x
replicated zero b x = refl
replicated (suc n) zero x = refl
replicated (suc n) (suc b) x = replicated n b x

fresh : (b : ℕ) → record_at (replicate 32 fresh_record) b ≡ fresh_record
fresh b = replicated 32 b fresh_record

pub opened_account : (overlapping : List ℕ → List ℕ → Bool) (conflicting : Mode → Mode → Bool) (bays : ℕ) (ms : List MarkMeant) →
    bays ≤ 32 → Account overlapping conflicting [] (opened_state bays ms)
opened_account overlapping conflicting bays ms few =
    record {
      bays_are_open_as_in_the_history = λ b. ap (λ r. r.state) (fresh b);
      commits_are_counted = λ b. ap (λ r. r.commits) (fresh b);
      aborts_are_counted = λ b. ap (λ r. r.aborts) (fresh b);
      verdict_is_crossed_once_a_commit_is = refl;
      every_commit_is_right = tt;
      links_are_paths = λ clean a b la lb. (λ e. absurd (both_ways false refl e), λ r. absurd (both_ways false refl r.0));
      own_marks_are_accesses_of_the_open_transaction =
          λ clean b lb fs m. (λ e. absurd (both_ways _ (opened_own b fs m ms) e), λ r. absurd (both_ways false refl r.0));
      inherited_marks_are_accesses_that_paths_reach =
          λ clean b lb fs m. (λ e. absurd (both_ways _ (opened_inherited b fs m ms) e), λ r. absurd (both_ways false refl r.0));
      held_marks_are_told_apart = opened_apart ms;
      only_bays_hold_marks = opened_bays ms;
      open_bays_are_bays = λ b e. absurd (both_ways false refl e);
      bays_are_few = few;
      bays_have_records = few;
      accesses_are_numbered = tt;
      committed_have_no_cycle = λ clean (t, p). path_start (λ u. ⊥) (λ u v l. l) p;
    }
