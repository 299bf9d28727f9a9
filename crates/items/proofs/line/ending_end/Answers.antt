use Rattle.std.proofs.Common.{length, sym, ap, ◌∙◌}
use Rattle.std.proofs.lemmas.List.{at_drop_all}
use Rattle.items.specs.Lines.{ending, fitted}
use Rattle.items.proofs.Fitting.{length_from, fits_on, fits_not}
use Rattle.items.proofs.line.ending_end.Goals as goal

pub returns-in_err-end : goal.returns-in_err-end
returns-in_err-end c =
    let long = length_from c.args.numbers.now c.loop-n.n-index c.loop-n-test.true in
    let here = fits_not c.args.room c.loop-n.end _ _ _ long (sym c.spaced_end.ensures ∙ c.in_err-end.was) in
    c.from_residual.ensures ∙ sym here ∙ c.loop-n.invariant

pub loop-n-preserved : goal.loop-n-preserved
loop-n-preserved c =
    let long = length_from c.args.numbers.now c.loop-n.n-index c.loop-n-test.true in
    let here = fits_on c.args.room c.loop-n.end _ _ _ c.in_ok-end.end long (sym c.spaced_end.ensures ∙ c.in_ok-end.was) in
    sym here ∙ c.loop-n.invariant

pub returns : goal.returns
returns c =
    let rest = at_drop_all ending c.args.numbers.now c.loop-n.n-index c.loop-n-test.false in
    c.advance.ensures ∙ sym (ap (λ l. fitted c.args.room c.loop-n.end (length l)) rest) ∙ c.loop-n.invariant
