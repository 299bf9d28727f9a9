use Rattle.std.proofs.Common.{◌≡◌, ◌+◌, [], ◌∷◌, decimal, sym, ap, ◌∙◌}
use Rattle.items.specs.Lines.{pasted}
use Rattle.items.proofs.Pasting.{pasted_one, pasted_pieces}
use Rattle.items.proofs.line.put_spaced.Goals as goal

pub returns-clause-memory : goal.returns-clause-memory
returns-clause-memory c =
    let out = c.args.out.now in
    let at = c.args.at in
    let ds = decimal c.args.n in
    let digits : c.as_bytes-digits.result.now ≡ ds = c.as_bytes-digits.ensures.value ∙ c.format.ensures.text in
    c.put_bytes.ensures ∙ ap (pasted _ (at + 1)) digits ∙ ap (λ d. pasted d (at + 1) ds) (pasted_one out at 32) ∙ sym (pasted_pieces out at (32 ∷ []) ds)
