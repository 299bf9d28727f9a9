-- The account goes by what a state means: the same state gives the same account. Assumes nothing.
use Rattle.std.proofs.Common.{ℕ, ◌<◌, ◌≤◌, Bool, List, sym, ap, ◌∙◌, subst}
use Rattle.items.specs.declared.mode.Mode.{Mode}
use Rattle.marks.specs.Holding.{holds_own, holds_inherited}
use Rattle.marks.specs.Apart.{told_apart, OnlyBays}
use Rattle.watch.specs.Histories.{History}
use Rattle.watch.specs.States.{State, SameState, record_at}
use Rattle.watch.specs.Accounts.{Account}

module _ (overlapping : List ℕ → List ℕ → Bool) (conflicting : Mode → Mode → Bool) where
  pub same_account : (h : History) (s t : State) → SameState t s → Account overlapping conflicting h s →
      Account overlapping conflicting h t
  same_account h s t same was =
      record {
        bays_are_open_as_in_the_history = λ b. ap (λ rs. (record_at rs b).state) same.records ∙ was.bays_are_open_as_in_the_history b;
        commits_are_counted = λ b. ap (λ rs. (record_at rs b).commits) same.records ∙ was.commits_are_counted b;
        aborts_are_counted = λ b. ap (λ rs. (record_at rs b).aborts) same.records ∙ was.aborts_are_counted b;
        verdict_is_crossed_once_a_commit_is = same.verdict ∙ was.verdict_is_crossed_once_a_commit_is;
        every_commit_is_right = was.every_commit_is_right;
        links_are_paths =
            λ clean a b la lb.
            let old = was.links_are_paths clean a b la lb in let e = same.links a b la lb in
            (λ k. old.0 (sym e ∙ k), λ p. e ∙ old.1 p);
        own_marks_are_accesses_of_the_open_transaction =
            λ clean b lb fs m.
            let old = was.own_marks_are_accesses_of_the_open_transaction clean b lb fs m in let e = ap (λ ms. holds_own ms b fs m) same.marks in
            (λ k. old.0 (sym e ∙ k), λ p. e ∙ old.1 p);
        inherited_marks_are_accesses_that_paths_reach =
            λ clean b lb fs m.
            let old = was.inherited_marks_are_accesses_that_paths_reach clean b lb fs m in let e = ap (λ ms. holds_inherited ms b fs m) same.marks in
            (λ k. old.0 (sym e ∙ k), λ p. e ∙ old.1 p);
        held_marks_are_told_apart = ap told_apart same.marks ∙ was.held_marks_are_told_apart;
        only_bays_hold_marks = subst OnlyBays (sym same.marks) was.only_bays_hold_marks;
        open_bays_are_bays = λ b o. subst (λ n. b < n) (sym same.bays) (was.open_bays_are_bays b o);
        bays_are_few = subst (λ n. n ≤ 32) (sym same.bays) was.bays_are_few;
        bays_have_records = rw (same.bays, same.records) was.bays_have_records;
        accesses_are_numbered = was.accesses_are_numbered;
        committed_have_no_cycle = was.committed_have_no_cycle;
      }
