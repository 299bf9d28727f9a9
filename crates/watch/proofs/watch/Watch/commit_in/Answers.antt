use Rattle.std.proofs.Common.{◌<◌, arith, rules}
use Rattle.watch.proofs.LinkLoops.{answered, joined_links}
use Rattle.watch.proofs.watch.Watch.commit_in.Goals as goal

pub returns-clause-step : goal.returns-clause-step
returns-clause-step g c =
    let bay = c.args.bay in
    let small : bay < 32 = omega (arith, c.requires.taken.within, c.args.self.now.bays.few) in
    record {
      answer = search rules;
      links = λ p q some few. joined_links (g.B.Board.linked c.args.self.now.board) (g.B.Board.linked c.link_between.new.board) (g.B.Board.linked c.drop_bay.new.self) bay c.unwrap-froms.result c.unwrap-tos.result p q small some few
          (answered bay _ _ _ small c.unwrap-froms.ensures c.links_into.ensures.answer) (answered bay _ _ _ small c.unwrap-tos.ensures c.links_out.ensures.answer) (c.link_between.ensures p q) (c.drop_bay.ensures.after p q);
      marks = search rules;
      records = search rules;
      bays = search rules;
      verdict = search rules;
    }
