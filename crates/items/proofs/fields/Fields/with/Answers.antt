use Rattle.std.proofs.Common.{◌<◌, length, Some, sym, ap, ◌∙◌, arith}
use Rattle.std.proofs.lemmas.List.{take_more_set}
use Rattle.std.proofs.lemmas.Bool.{cond-true, lt-ltb}
use Rattle.items.proofs.fields.Fields.with.Goals as goal

pub returns : goal.returns
returns c =
    let self = c.args.self.now in
    let room : self.count < length self.values = omega (arith, self.room, c.if-self-ge4.false) in
    ap Some (take_more_set self.values self.count c.args.n room) ∙ sym (cond-true _ _ _ (lt-ltb _ _ c.if-self-ge4.false))
