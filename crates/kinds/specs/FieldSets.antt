-- Sets of fields of a record: a record number below 4,096 and a set of six fields, not empty. Assumes nothing.
use Rattle.std.specs.Prelude.{ℕ, ◌+◌, ◌*◌, ◌/◌, ◌%◌, Bool, not, ◌&&◌, List, [], ◌∷◌, codes, Option, ◌==◌, bit_and, nat_le, nat_lt}
use Rattle.items.specs.Kinds.{Layout, Wording, ranged, of_pair, of_pairs}

-- a set is a number in which field k counts 2^k
abbrev pub is_field_set : List ℕ → Bool
is_field_set = of_pair (λ row fields. nat_lt row 4096 && (nat_le 1 fields && nat_lt fields 64))

-- whether the records are equal and some field is in both sets
abbrev pub share_field : List ℕ → List ℕ → Bool
share_field = of_pairs (λ r s q t. (r == q) && not (bit_and s t == 0))

-- the 18 bits of a field set: 12 of record, then 6 of set
abbrev pub field_set_bits : List ℕ → ℕ
field_set_bits [] = 0
field_set_bits (r ∷ []) = 0
field_set_bits (r ∷ s ∷ fs) = r * 64 + s

abbrev pub field_set_of : ℕ → Option (List ℕ)
field_set_of n = ranged is_field_set (n / 64 ∷ n % 64 ∷ [])

abbrev pub field_set_layout : Layout
field_set_layout = record { code = 3; width = 18; within = is_field_set; packed = field_set_bits; unpacked = field_set_of }

abbrev pub field_set_wording : Wording
field_set_wording = record { word = codes "fields"; count = 2; shown = λ fs. fs; reads = ranged is_field_set }
