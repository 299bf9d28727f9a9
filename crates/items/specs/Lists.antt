-- A short list of numbers. Assumes nothing.
use Rattle.std.specs.Prelude.{ℕ, List, take}
use Rattle.items.specs.declared.fields.Fields.{Fields}

-- the numbers that are listed: the first of the values
abbrev pub listed : Fields → List ℕ
listed f = take f.count f.values
