-- Spans of bytes: a start and a length of 1 to 64, start plus length at most 1,048,576. Assumes nothing.
use Rattle.std.specs.Prelude.{ℕ, ◌+◌, ◌-◌, ◌*◌, ◌/◌, ◌%◌, min, max, Bool, ◌&&◌, List, [], ◌∷◌, codes, Option, nat_le, nat_lt}
use Rattle.items.specs.Kinds.{Layout, Wording, ranged, of_pair, of_pairs}

abbrev pub is_span : List ℕ → Bool
is_span = of_pair (λ start long. (nat_le 1 long && nat_le long 64) && nat_le (start + long) 1048576)

-- whether some byte lies in both spans
abbrev pub share_byte : List ℕ → List ℕ → Bool
share_byte = of_pairs (λ s l t m. nat_lt (max s t) (min (s + l) (t + m)))

-- the 26 bits of a span: 20 of start, then 6 of length minus one
abbrev pub span_bits : List ℕ → ℕ
span_bits [] = 0
span_bits (start ∷ []) = 0
span_bits (start ∷ long ∷ fs) = start * 64 + (long - 1)

abbrev pub span_of : ℕ → Option (List ℕ)
span_of n = ranged is_span (n / 64 ∷ (n % 64 + 1) ∷ [])

abbrev pub span_layout : Layout
span_layout = record { code = 2; width = 26; within = is_span; packed = span_bits; unpacked = span_of }

abbrev pub span_wording : Wording
span_wording = record { word = codes "span"; count = 2; shown = λ fs. fs; reads = ranged is_span }
