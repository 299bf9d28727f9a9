use Rattle.std.proofs.Common.{◌≡◌, ℕ, ◌+◌, ◌<◌, ◌∷◌, ◌++◌, length, take, drop, Some, unwrap_or, sym, ap, ◌∙◌, arith}
use Rattle.std.proofs.lemmas.List.{take_at}
use Rattle.std.proofs.lemmas.Bool.{cond-true, le-leb}
use Rattle.std.proofs.lemmas.Bool.Decides.{nat_tests}
use Rattle.items.specs.Lines.{line, fitted, pasted_if}
use Rattle.items.proofs.Pasting.{over_same}
use Rattle.items.proofs.line.line_of.Goals as goal

-- a length that is below the most that a number says is that of the line
told : (most n m : ℕ) → m ≡ unwrap_or (fitted most 0 n) most → m < most → m ≡ n
told most n m e h = grind (arith, nat_tests)

pub returns : goal.returns
returns c =
    let l = line c.args.word.now (c.args.first ∷ c.args.rest.now) in
    let memory = c.as_mut_slice.result.now in
    let most : ℕ = 18446744073709551615 in
    let asked : c.in_ok-made.made.len ≡ unwrap_or (fitted most 0 (length l)) most =
    c.in_ok-made.ensures.len ∙ c.unwrap_or-length.ensures ∙ ap (λ o. unwrap_or o most) c.line_end.ensures in
    let few : c.in_ok-made.made.len < most = omega (arith, c.in_ok-made.made.ok, c.in_ok-made.made.small) in
    let len : c.in_ok-made.made.len ≡ length l = told most (length l) _ asked few in
    let room : length memory ≡ length l = c.as_mut_slice.ensures.len ∙ len in
    let fits : c.write_line.result ≡ Some (0 + length l) = c.write_line.ensures.place ∙ cond-true _ _ _ (le-leb (0 + length l) (length memory) (omega arith)) in
    let wrote : c.write_line.new.out ≡ l = c.write_line.ensures.memory ∙ ap (λ o. pasted_if o memory 0 l) fits ∙ over_same memory l room in
    ap (λ x. take c.in_ok-made.made.len (x ++ drop (length x) c.in_ok-made.made.items)) wrote ∙ take_at l _ c.in_ok-made.made.len (sym len)
