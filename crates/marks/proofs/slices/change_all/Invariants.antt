use Rattle.std.proofs.Common.{◌≡◌}
use Rattle.marks.specs.declared.mark.Mark.{Mark}
use Rattle.marks.specs.Marks.{MarkMeant, meant_mark}
use Rattle.marks.proofs.SliceLaws.{Written}
use Rattle.marks.proofs.slices.change_all.Given as goal

abbrev pub invariant-loop-mark : goal.invariant-loop-mark
invariant-loop-mark g l =
    (f : MarkMeant → MarkMeant) → ((m n : Mark g.row.I.Denot) → goal.F-post g l.change m n → meant_mark g.I.Kind.fields n ≡ f (meant_mark g.I.Kind.fields m)) → Written (meant_mark g.I.Kind.fields) f l.initial.marks l.marks l.mark-index
