use Rattle.std.proofs.Common.{◌&&◌, sym, ◌∙◌, rules, tests}
use Rattle.std.proofs.lemmas.Iterator.{YieldsList-from_slice}
use Rattle.std.proofs.lemmas.Iterator.Search.{any_from_yields_List}
use Rattle.boards.specs.BaySets.{bit}
use Rattle.marks.specs.Marks.{MarkMeant, meant_mark, is_of}
use Rattle.marks.proofs.AnyLaws.{any_map}
use Rattle.marks.proofs.slices.is_own.Goals as goal

pub returns : goal.returns
returns g c =
    let has = λ (m : MarkMeant). is_of (g.I.Kind.fields c.args.access.now.item) c.args.access.now.mode m && bit m.own c.args.bay in
    any_from_yields_List (λ m. has (meant_mark g.I.Kind.fields m)) _ _ c.any.result c.any.ensures.ran (YieldsList-from_slice c.args.marks.now cc) (λ x b q k. search (rules, tests))
    ∙ sym (any_map has (meant_mark g.I.Kind.fields) c.args.marks.now)
