use Rattle.std.proofs.Common.{◌≡◌, ℕ, cond, ltb}
use Rattle.boards.specs.Boards.{without_into}
use Rattle.boards.specs.Matrices.{cells}
use Rattle.boards.proofs.bit_board.clear_column.Given as goal

abbrev pub invariant-loop-row : goal.invariant-loop-row
invariant-loop-row l =
    (a k : ℕ) → cells l.rows a k ≡ cond (ltb a l.row-index) (without_into (cells l.initial.rows) l.bay.number a k) (cells l.initial.rows a k)
