use Rattle.std.proofs.Common.{ap, ◌∙◌, arith, rules}
use Rattle.boards.specs.PairLists.{none_twice}
use Rattle.boards.proofs.PairLaws.{pushed}
use Rattle.boards.proofs.pair_list.PairListBoard.put.Goals as goal

pub push-requires : goal.push-requires
push-requires c = (omega arith, (pushed c.args.self.now.pairs.items c.in_ok-pair.pair c.args.self.now.once (search rules)).space)

pub invariant_of-self : goal.invariant_of-self
invariant_of-self c = record { once = ap none_twice c.push.ensures.items ∙ (pushed c.args.self.now.pairs.items c.in_ok-pair.pair c.args.self.now.once (search rules)).once }
