use Rattle.std.proofs.Common.{sym, ◌∙◌, rules}
use mathlib.Core.List.{map-map}
use Rattle.marks.specs.Marks.{inherits, leaves, hands_on}
use Rattle.marks.specs.Holding.{meant_list}
use Rattle.marks.proofs.mark_list.MarkList.hand_on.Goals as goal

pub returns-clause-after : goal.returns-clause-after
returns-clause-after g c =
    c.change_all.ensures (hands_on c.args.bay c.args.takers) (λ m n k. search rules)
    ∙ sym (map-map (leaves c.args.bay) (inherits c.args.bay c.args.takers) (meant_list g.I.Kind.fields c.args.self.now))
