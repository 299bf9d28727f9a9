use Rattle.std.proofs.Common.{◌≡◌, ap, ◌∙◌, filter, arith, rules}
use Rattle.std.proofs.lemmas.Bool.Decides.{nat_tests}
use Rattle.arrayvec.proofs.ArrayVecLemmas.{filter-from_retain}
use Rattle.boards.specs.PairLists.{spares, listed_links, none_twice}
use Rattle.boards.proofs.PairLaws.{listed_kept, once_kept}
use Rattle.boards.proofs.pair_list.PairListBoard.drop_bay.Goals as goal

pub invariant_of-self : goal.invariant_of-self
invariant_of-self c =
    let pairs = c.args.self.now.pairs.items in let bay = c.in_ok-bay.bay.number in
    let left : c.retain.new.self.items ≡ filter (spares bay) pairs =
    filter-from_retain _ (spares bay) _ (λ x b f' y called. search rules) pairs c.retain.new.self.items c.retain.ensures.filtered in
    record { once = ap none_twice left ∙ once_kept bay pairs c.args.self.now.once }

pub returns-clause-after : goal.returns-clause-after
returns-clause-after c a b =
    let named = c.in_ok-bay.ensures in
    let pairs = c.args.self.now.pairs.items in let bay = c.in_ok-bay.bay.number in
    let left : c.retain.new.self.items ≡ filter (spares bay) pairs =
    filter-from_retain _ (spares bay) _ (λ x b f' y called. search rules) pairs c.retain.new.self.items c.retain.ensures.filtered in
    ap (λ ps. listed_links ps a b) left ∙ listed_kept bay pairs a b ∙ grind (arith, nat_tests)
