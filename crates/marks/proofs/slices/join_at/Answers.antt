use Rattle.std.proofs.Common.{[], set, sym, ap, ◌∙◌}
use Rattle.std.proofs.lemmas.List.{map-set}
use Rattle.items.specs.declared.mode.Mode.TheVariants.{Look}
use Rattle.marks.specs.Marks.{meant_mark, meant_marks, fresh_mark, joins}
use Rattle.marks.proofs.SliceLaws.{read_here}
use Rattle.marks.proofs.slices.join_at.Goals as goal

pub returns : goal.returns
returns g c =
    map-set (meant_mark g.I.Kind.fields) c.args.marks.now c.args.place c.joined.result
    ∙ ap (set (meant_marks g.I.Kind.fields c.args.marks.now) c.args.place) c.joined.ensures
    ∙ ap (λ m. set (meant_marks g.I.Kind.fields c.args.marks.now) c.args.place (joins c.args.bay m)) (sym (read_here (meant_mark g.I.Kind.fields) c.args.marks.now c.args.place c.index-marks-place.result c.requires c.index-marks-place.is (fresh_mark [] Look)))
