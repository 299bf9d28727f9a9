-- The line that a program prints for a summary. Assumes nothing.
use Rattle.std.specs.Prelude.{ℕ, List, [], ◌∷◌, ◌++◌, Some, None, codes, flat_map, Option}
use Rattle.items.specs.Lines.{spaced, line}
use Rattle.replay.specs.declared.summary.Summary.{Summary}

-- The word that tells whether a commit crossed.
abbrev pub verdict_word : Option ℕ → List ℕ
verdict_word None = codes "CLEAN"
verdict_word (Some bay) = codes "CROSSED"

-- The number of the bay whose commit crossed, where one did.
abbrev pub crossing_numbers : Option ℕ → List ℕ
crossing_numbers None = []
crossing_numbers (Some bay) = bay ∷ []

-- What is printed of a summary: the word, then how many entries, commits, aborts and open bays there are, then the bay of
-- the crossing, each number behind a space.
abbrev pub summary_text : Summary → List ℕ
summary_text s =
    verdict_word s.crossing ++ spaced s.entries ++ spaced s.commits ++ spaced s.aborts ++ spaced s.open_bays ++ flat_map spaced (crossing_numbers s.crossing)

-- The word, then how many entries, commits, aborts and open bays there are, then the bay of the crossing.
abbrev pub summary_line : Summary → List ℕ
summary_line s = line (verdict_word s.crossing) (s.entries ∷ s.commits ∷ s.aborts ∷ s.open_bays ∷ crossing_numbers s.crossing)
