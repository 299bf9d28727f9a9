use Rattle.std.proofs.Common.{set, ap, ◌∙◌}
use Rattle.std.proofs.lemmas.List.{map-set}
use Rattle.marks.specs.Marks.{meant_mark, meant_marks}
use Rattle.marks.proofs.slices.take_at.Goals as goal

pub returns : goal.returns
returns g c =
    map-set (meant_mark g.I.Kind.fields) c.args.marks.now c.args.place c.taken.result
    ∙ ap (set (meant_marks g.I.Kind.fields c.args.marks.now) c.args.place) c.taken.ensures
