use Rattle.std.proofs.Common.{not, sym, ◌∙◌, rules, tests}
use Rattle.std.proofs.lemmas.Iterator.{YieldsList-from_slice}
use Rattle.std.proofs.lemmas.Iterator.Consumers.{YieldsList-from_filter, count_from_yields_List}
use Rattle.std.proofs.lemmas.List.Folds.{fold-map}
use Rattle.std.proofs.lemmas.List.Sums.{length-filter}
use Rattle.marks.specs.Marks.{meant_mark, is_vacant}
use Rattle.marks.proofs.slices.count_held.Goals as goal

pub returns : goal.returns
returns g c =
    count_from_yields_List c.filter.result _ c.count.ensures.ran (YieldsList-from_filter _ (λ m. not (is_vacant (meant_mark g.I.Kind.fields m))) (YieldsList-from_slice c.args.marks.now cc) c.filter.ensures.closure (λ x b q k. search (rules, tests)))
    ∙ length-filter (λ m. not (is_vacant (meant_mark g.I.Kind.fields m))) c.args.marks.now
    ∙ sym (fold-map _ _ 0 c.args.marks.now)
