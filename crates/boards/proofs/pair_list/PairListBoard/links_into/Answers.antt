use Rattle.std.proofs.Common.{Ok, ap, ◌∙◌, eqb, arith, rules, tests}
use Rattle.std.proofs.lemmas.Iterator.{YieldsList-from_slice}
use Rattle.std.proofs.lemmas.Iterator.Consumers.{YieldsList-from_filter, fold_from_yields_List}
use Rattle.std.proofs.lemmas.Bool.Decides.{nat_tests}
use Rattle.boards.specs.declared.pair.Pair.{Pair}
use Rattle.boards.specs.BaySets.{set_number, with_bay}
use Rattle.boards.specs.PairLists.{is_pair}
use Rattle.boards.proofs.PairLaws.{gathered_all}
use Rattle.boards.proofs.pair_list.PairListBoard.links_into.Goals as goal

pub returns-clause-answer : goal.returns-clause-answer
returns-clause-answer c =
    let said = c.in_ok-bay.ensures in let pairs = c.args.self.now.pairs.items in let bay = c.in_ok-bay.bay.number in
    let gathered =
    fold_from_yields_List _ (λ s (p : Pair). set_number (with_bay s p.from.number) 32) 0 c.fold.result c.fold.ensures.ran
    (YieldsList-from_filter _ (λ (p : Pair). eqb p.to.number bay) (YieldsList-from_slice pairs cc) c.filter.ensures.closure (λ x b q k. search (rules, tests)))
    (λ a x b q k. search (rules, tests)) in
    let all = gathered_all (λ p. eqb p.to.number bay) (λ p. p.from.number) (λ k. is_pair k c.args.bay) (λ k p. grind (arith, nat_tests)) pairs in
    ap Ok (gathered ∙ all) ∙ grind (arith, nat_tests)
