use Rattle.std.proofs.Common.{◌≡◌, Bool, true, false, cond, Ok, Err, Result, refl, arith}
use Rattle.items.specs.Modes.{conflicting}
use Rattle.marks.specs.Marks.{meant_marks}
use Rattle.watch.proofs.RunFacts.{opening_account}
use Rattle.watch.proofs.watch.Watch.open.Goals as goal

-- an opening that was not refused is the one that is promised
taken : {A E : Type 0} (fits : Bool) (x y : A) (e : E) → ◌≡◌ {A = Result A E} (Ok x) (cond fits (Ok y) (Err e)) → x ≡ y
taken true x y e h = grind arith
taken false x y e h = grind arith

pub returns-clause-account : goal.returns-clause-account
returns-clause-account g c =
    let marks = taken _ _ _ _ c.in_ok-marks.ensures.answer in
    opening_account g.I.Kind.overlapping conflicting c.args.bays (meant_marks g.I.Kind.fields c.args.marks.now) _ (omega arith) (record { links = λ a b h k. c.new.ensures a b; marks = marks; records = c.idle.ensures.records; bays = c.idle.ensures.count; verdict = refl })
