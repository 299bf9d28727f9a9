-- Sets of links as a square of bits. Assumes nothing.
use Rattle.std.specs.Prelude.{ℕ, ◌&&◌, List, slice_index}
use Rattle.boards.specs.BaySets.{bit, is_bay}
use Rattle.boards.specs.Boards.{Links}

-- whether the second number is in the set that the word of the first stands for
abbrev pub cells : List ℕ → Links
cells rows a b = bit (slice_index rows a) b

-- a bay links to the bays in the set of its word
abbrev pub matrix_links : List ℕ → Links
matrix_links rows a b = (is_bay a && is_bay b) && cells rows a b
