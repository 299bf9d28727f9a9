use Rattle.std.proofs.Common.{arith}
use Rattle.marks.specs.Marks.{meant_mark}
use Rattle.marks.proofs.SliceLaws.{written_more, written_all}
use Rattle.marks.proofs.slices.change_all.Goals as goal

pub loop-mark-preserved : goal.loop-mark-preserved
loop-mark-preserved g c =
    λ f each. written_more (meant_mark g.I.Kind.fields) f c.args.marks.now c.loop-mark.marks c.loop-mark.mark-index c.mark-item.result c.change.result c.loop-mark-test.true (omega arith) (c.loop-mark.invariant f each) (each _ _ c.change.ensures)

pub returns : goal.returns
returns g c =
    λ f each. written_all (meant_mark g.I.Kind.fields) f c.args.marks.now c.loop-mark.marks c.loop-mark.mark-index c.loop-mark-test.false (c.loop-mark.invariant f each)
