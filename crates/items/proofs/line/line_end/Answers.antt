use Rattle.std.proofs.Common.{sym, refl, ◌∙◌}
use Rattle.items.proofs.Fitting.{length_line, fits_on, fits_not}
use Rattle.items.proofs.line.line_end.Goals as goal

pub returns-in_err-word_end : goal.returns-in_err-word_end
returns-in_err-word_end c =
    let long = length_line c.args.word.now c.args.first c.args.rest.now in
    c.from_residual.ensures ∙ sym (fits_not c.args.room c.args.at _ _ _ long (sym c.advance.ensures ∙ c.in_err-word_end.was))

pub returns-in_err-first_end : goal.returns-in_err-first_end
returns-in_err-first_end c =
    let room = c.args.room in
    let long = length_line c.args.word.now c.args.first c.args.rest.now in
    let word = fits_on room c.args.at _ _ _ c.in_ok-word_end.word_end long (sym c.advance.ensures ∙ c.in_ok-word_end.was) in
    let first = fits_not room c.in_ok-word_end.word_end _ _ _ refl (sym c.spaced_end.ensures ∙ c.in_err-first_end.was) in
    c.from_residual-in_err-first_end.ensures ∙ sym first ∙ sym word

pub returns : goal.returns
returns c =
    let room = c.args.room in
    let long = length_line c.args.word.now c.args.first c.args.rest.now in
    let word = fits_on room c.args.at _ _ _ c.in_ok-word_end.word_end long (sym c.advance.ensures ∙ c.in_ok-word_end.was) in
    let first = fits_on room c.in_ok-word_end.word_end _ _ _ c.in_ok-first_end.first_end refl (sym c.spaced_end.ensures ∙ c.in_ok-first_end.was) in
    c.ending_end.ensures ∙ sym first ∙ sym word
