use Rattle.marks.specs.Marks.{meant_marks}
use Rattle.marks.proofs.PlaceLaws.{Searched}
use Rattle.marks.proofs.slices.find_place.Given as goal

abbrev pub invariant-loop-i : goal.invariant-loop-i
invariant-loop-i g l = Searched (meant_marks g.I.Kind.fields l.marks) (g.I.Kind.fields l.access.item) l.access.mode l.i l.spare
