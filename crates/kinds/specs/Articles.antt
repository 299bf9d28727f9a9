-- Articles: a number from 0 to 16,383. Assumes nothing.
use Rattle.std.specs.Prelude.{ℕ, Bool, false, List, [], ◌∷◌, codes, Option, nat_lt}
use Rattle.items.specs.Kinds.{Layout, Wording, ranged}

-- the number is below 16,384
abbrev pub is_article : List ℕ → Bool
is_article [] = false
is_article (n ∷ []) = nat_lt n 16384
is_article (n ∷ m ∷ fs) = false

-- the 14 bits of an article are its number
abbrev pub article_bits : List ℕ → ℕ
article_bits [] = 0
article_bits (n ∷ fs) = n

abbrev pub article_of : ℕ → Option (List ℕ)
article_of n = ranged is_article (n ∷ [])

abbrev pub article_layout : Layout
article_layout = record { code = 1; width = 14; within = is_article; packed = article_bits; unpacked = article_of }

abbrev pub article_wording : Wording
article_wording = record { word = codes "article"; count = 1; shown = λ fs. fs; reads = ranged is_article }
