use Rattle.std.proofs.Common.{◌∙◌, rules, tests}
use Rattle.std.proofs.lemmas.Iterator.{YieldsList-from_slice}
use Rattle.std.proofs.lemmas.Iterator.Consumers.{YieldsList-from_filter, fold_from_yields_List}
use Rattle.items.specs.Modes.{conflicting}
use Rattle.marks.specs.Holders.{plus_all}
use Rattle.marks.specs.Marks.{meant_mark, reached}
use Rattle.marks.specs.Against.{is_against}
use Rattle.marks.proofs.LinkLaws.{linked_all}
use Rattle.marks.proofs.slices.bays_against.Goals as goal

pub returns : goal.returns
returns g c =
    let f = meant_mark g.I.Kind.fields in let fs = g.I.Kind.fields c.args.access.now.item in let mode = c.args.access.now.mode in
    fold_from_yields_List _ (λ s m. plus_all s (reached c.args.bay (f m))) 0 c.fold.result c.fold.ensures.ran
    (YieldsList-from_filter _ (λ m. is_against g.I.Kind.overlapping conflicting fs mode (f m)) (YieldsList-from_slice c.args.marks.now cc) c.filter.ensures.closure (λ x b q k. search (rules, tests)))
    (λ a x b q k. search (rules, tests))
    ∙ linked_all g.I.Kind.overlapping conflicting c.args.bay fs mode f c.args.marks.now
