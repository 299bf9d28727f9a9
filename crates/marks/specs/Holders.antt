-- Sets of bays as numbers in which bay k counts 2^k, and what becomes of them. Assumes nothing.
use Rattle.std.specs.Prelude.{ℕ}
use Rattle.boards.specs.BaySets.{set_number, with_bay, without_bay, in_either}

-- the set with one more bay
abbrev pub plus_bay : ℕ → ℕ → ℕ
plus_bay s bay = set_number (with_bay s bay) 32

-- the set without one bay
abbrev pub minus_bay : ℕ → ℕ → ℕ
minus_bay s bay = set_number (without_bay s bay) 32

-- the bays of both sets
abbrev pub plus_all : ℕ → ℕ → ℕ
plus_all s t = set_number (in_either s t) 32
