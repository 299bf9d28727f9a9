use Rattle.std.proofs.Common.{◌≡◌, ℕ, List, [], ◌∷◌, ◌++◌, refl, subst, IfOk}
use Rattle.std.proofs.lemmas.List.{append_assoc}
use Rattle.items.specs.Refusals.{number_of, word_of, refused}
use Rattle.items.specs.Lines.{spaced, refusal_text}
use Rattle.items.proofs.refusal.Refusal.line.Goals as goal

joined : (a b c end : List ℕ) → a ++ b ++ c ++ end ≡ a ++ (b ++ (c ++ end))
joined a b c end = simp append_assoc refl

pub returns : goal.returns
returns c =
    let r = c.args.self.now in
    subst (λ text. IfOk c.displayed_line.result (λ v. v.items ≡ text)) (joined (refused ++ word_of r.layer) (spaced (number_of r.reason)) (spaced r.entry) (10 ∷ [])) (c.displayed_line.ensures (refusal_text r) refl)
