use Rattle.std.proofs.Common.{◌≡◌, ℕ, ◌<◌, ◌≤◌, false}
use Rattle.boards.specs.BaySets.{bit}
use Rattle.boards.specs.declared.bay.Bay.{Bay}
use Rattle.boards.proofs.bay_set.bays_that.Given as goal

abbrev pub invariant-loop-number : goal.invariant-loop-number
invariant-loop-number g l =
    ((bay : Bay) → bay.number < l.number → goal.F-post g l.fn.test bay (bit l.bays bay.number))
    × ((k : ℕ) → l.number ≤ k → bit l.bays k ≡ false)
