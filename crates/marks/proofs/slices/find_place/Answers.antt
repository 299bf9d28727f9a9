use Rattle.std.proofs.Common.{◌+◌, arith}
use Rattle.marks.specs.Marks.{meant_mark, meant_marks, is_vacant, is_held_of}
use Rattle.marks.proofs.PlaceLaws.{any_more, first_here, spare_more, vacant_here}
use Rattle.marks.proofs.slices.find_place.Goals as goal
use Rattle.marks.proofs.slices.find_place.Goals.{else-is_of-via-then-is_of+else-not-is_vacant, else-is_of-via-else-is_of, then-is_none+then-is_vacant, else-is_none, else-is_none-via-then-is_none+else-is_vacant, else-is_none-via-else-is_none}

pub loop-i-preserved : goal.loop-i-preserved
loop-i-preserved g c =
    let f = meant_mark g.I.Kind.fields in let ms = meant_marks g.I.Kind.fields c.args.marks.now in
    let test = is_held_of (g.I.Kind.fields c.args.access.now.item) c.args.access.now.mode in
    let more = any_more f c.args.marks.now c.loop-i.i c.index-marks-i.result c.loop-i-test.true c.index-marks-i.is in
    let held = more test in let before = c.loop-i.invariant.0 in (
      grind arith,
      elim c.if-is_none.branch [
        | then-is_none+then-is_vacant w ↦
            rw w.spare-is (vacant_here f c.args.marks.now c.loop-i.i c.index-marks-i.result c.loop-i-test.true c.index-marks-i.is (grind arith))
        | else-is_none w ↦
            rw w.spare-is
            (spare_more ms c.loop-i.i (c.loop-i.i + 1) _ (more is_vacant) c.loop-i.spare
            (λ e. grind arith)
            c.loop-i.invariant.1)
      ],
    )

pub returns-then-not-is_vacant : goal.returns-then-not-is_vacant
returns-then-not-is_vacant g c =
    first_here (meant_mark g.I.Kind.fields) c.args.marks.now c.loop-i.i c.index-marks-i.result c.loop-i-test.true c.index-marks-i.is (is_held_of (g.I.Kind.fields c.args.access.now.item) c.args.access.now.mode) c.loop-i.invariant.0 (let a = c.if-is_of.ensures in let b = c.if-not-is_vacant.ensures in grind arith)
