-- Sets of bays as numbers in which bay k counts 2^k. Assumes nothing.
use Rattle.std.specs.Prelude.{ℕ, zero, suc, ◌+◌, ◌/◌, ◌%◌, ◌^◌, Bool, cond, not, ◌&&◌, ◌||◌, ◌==◌, nat_lt}

-- there are 32 bays, from 0 to 31
abbrev pub is_bay : ℕ → Bool
is_bay b = nat_lt b 32

-- whether k is in the set of this number
abbrev pub bit : ℕ → ℕ → Bool
bit s k = s / 2 ^ k % 2 == 1

-- the number of the set of those below n that pass a test
unfoldable pub set_number : (ℕ → Bool) → ℕ → ℕ
set_number f zero = 0
set_number f (suc n) = set_number f n + cond (f n) (2 ^ n) 0

-- whether k is a given bay
abbrev pub is_this : ℕ → ℕ → Bool
is_this bay k = is_bay bay && k == bay

-- whether k is in one of two sets
abbrev pub in_either : ℕ → ℕ → ℕ → Bool
in_either s t k = bit t k || bit s k

-- whether k is in a set or is a given bay
abbrev pub with_bay : ℕ → ℕ → ℕ → Bool
with_bay s bay k = is_this bay k || bit s k

-- whether k is in a set and is not a given bay
abbrev pub without_bay : ℕ → ℕ → ℕ → Bool
without_bay s bay k = not (is_this bay k) && bit s k
