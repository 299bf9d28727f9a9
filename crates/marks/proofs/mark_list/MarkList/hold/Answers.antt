use Rattle.std.proofs.Common.{[]}
use Rattle.std.proofs.lemmas.List.Quantifiers.{position-Some}
use Rattle.items.specs.declared.mode.Mode.TheVariants.{Look}
use Rattle.std.proofs.lemmas.List.{length-map}
use Rattle.marks.specs.Marks.{meant_marks, is_held_of, fresh_mark}
use Rattle.marks.specs.Holding.{meant_list}
use Rattle.marks.proofs.HoldLaws.{held_step, vacant_step}
use Rattle.marks.proofs.mark_list.MarkList.hold.Goals as goal

pub join_at-requires : goal.join_at-requires
join_at-requires g c =
    let first = position-Some (is_held_of (g.I.Kind.fields c.args.item) c.args.mode) (meant_list g.I.Kind.fields c.args.self.now) c.in-Held.place (fresh_mark [] Look) (rw c.in-Held.is at c.in-Some.ensures) in
    simp length-map at first.0

pub take_at-requires : goal.take_at-requires
take_at-requires g c = let spare = rw c.in-Vacant.is at c.in-Some.ensures in simp length-map at spare.1.0

pub returns-in-Held-clause-step : goal.returns-in-Held-clause-step
returns-in-Held-clause-step g c =
    held_step c.args.bay (g.I.Kind.fields c.args.item) c.args.mode (meant_list g.I.Kind.fields c.args.self.now) (meant_marks g.I.Kind.fields c.join_at.new.marks) c.in-Held.place (rw c.in-Held.is at c.in-Some.ensures) c.join_at.ensures

pub returns-in-Vacant-clause-step : goal.returns-in-Vacant-clause-step
returns-in-Vacant-clause-step g c =
    let spare = rw c.in-Vacant.is at c.in-Some.ensures in
    vacant_step c.args.bay (g.I.Kind.fields c.args.item) c.args.mode (meant_list g.I.Kind.fields c.args.self.now) (meant_marks g.I.Kind.fields c.take_at.new.marks) c.in-Vacant.place spare.0 spare.1 c.take_at.ensures
