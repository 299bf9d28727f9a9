use Rattle.std.proofs.Common.{◌≡◌, suc, ◌+◌, eqb, length, take, drop, Some, position, sym, ap, ◌∙◌, arith, rules}
use Rattle.std.proofs.lemmas.Iterator.{YieldsList-from_slice}
use Rattle.std.proofs.lemmas.Iterator.Search.{position_from_yields_List}
use Rattle.std.proofs.lemmas.List.{take_rest, take_all}
use Rattle.text.specs.Words.{before}
use Rattle.text.proofs.WordFacts.{before_front, behind_rest, behind_none, marked, unmarked}
use Rattle.text.proofs.token.split_mark.Goals as goal
use Rattle.text.proofs.token.split_mark.Goals.{After-position}

-- the place that was found is the first mark's
placed : (c : After-position) → c.position.result ≡ position (λ b. eqb b c.args.mark) c.args.text.now
placed c = position_from_yields_List (λ b. eqb b c.args.mark) _ _ _ c.position.ensures.ran (YieldsList-from_slice c.args.text.now cc) (λ x b q k. search rules)

pub returns-in-Some : goal.returns-in-Some
returns-in-Some c =
    let text = c.args.text.now in
    let mark = c.args.mark in
    let place = c.in-Some.place in
    let m = marked mark text place (sym c.in-Some.is ∙ placed (goal.at.returns-in-Some c).After-position) in
    let next : place + 1 ≡ suc (length (before mark text)) = omega (arith, m.0) in
    record {
      before = ap (λ n. take n text) m.0 ∙ sym (before_front mark text);
      behind = ap Some (take_rest text (place + 1) ∙ ap (λ n. drop n text) next) ∙ sym (behind_rest mark text (omega (arith, m.0, m.1)));
    }

pub returns-in-None : goal.returns-in-None
returns-in-None c =
    let text = c.args.text.now in
    let mark = c.args.mark in
    let outside = unmarked mark text (sym c.in-None.is ∙ placed (goal.at.returns-in-None c).After-position) in
    record { before = sym (before_front mark text ∙ take_all _ text outside); behind = sym (behind_none mark text outside) }
