use Rattle.std.proofs.Common.{◌≡◌, ℕ, List, [], ◌∷◌, ◌++◌, Some, None, Option, flat_map, IfOk, refl, ap, ◌∙◌, subst, append-nil}
use Rattle.std.proofs.lemmas.List.{append_assoc}
use Rattle.items.specs.Lines.{spaced, line}
use Rattle.replay.specs.SummaryLines.{crossing_numbers, summary_text}
use Rattle.replay.proofs.summary.Summary.line.Goals as goal

joined : (word a b c d rest end : List ℕ) → (word ++ a ++ b ++ c ++ d ++ rest) ++ end ≡ word ++ (a ++ (b ++ (c ++ (d ++ (rest ++ end)))))
joined word a b c d rest end = simp append_assoc refl

-- a word, four numbers and the bay of a crossing, each behind a space, and then a newline, are a line
ended : (word : List ℕ) (a b c d : ℕ) (x : Option ℕ) → (word ++ spaced a ++ spaced b ++ spaced c ++ spaced d ++ flat_map spaced (crossing_numbers x)) ++ 10 ∷ [] ≡ line word (a ∷ b ∷ c ∷ d ∷ crossing_numbers x)
ended word a b c d None = joined word (spaced a) (spaced b) (spaced c) (spaced d) [] (10 ∷ [])
ended word a b c d (Some bay) =
    joined word (spaced a) (spaced b) (spaced c) (spaced d) (spaced bay ++ []) (10 ∷ []) ∙ ap (λ t. word ++ (spaced a ++ (spaced b ++ (spaced c ++ (spaced d ++ (t ++ 10 ∷ [])))))) (append-nil (spaced bay))

pub returns : goal.returns
returns c =
    let s = c.args.self.now in
    subst (λ text. IfOk c.displayed_line.result (λ v. v.items ≡ text)) (ended _ s.entries s.commits s.aborts s.open_bays s.crossing) (c.displayed_line.ensures (summary_text s) refl)
