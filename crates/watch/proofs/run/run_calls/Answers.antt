use Rattle.std.proofs.Common.{◌≡◌, ◌+◌, ◌<◌, [], ◌∷◌, ◌++◌, map, length, take, vec_items, sym, ap, ◌∙◌, subst, arith}
use Rattle.std.proofs.lemmas.List.{take_more, take_all, map_push, length-take-le, length_push, length-map}
use Rattle.items.specs.Entries.{entry_meant}
use Rattle.items.specs.Modes.{conflicting}
use Rattle.marks.specs.Marks.{meant_marks}
use Rattle.watch.specs.Histories.{history_of}
use Rattle.watch.specs.States.{opened_state}
use Rattle.watch.specs.Watches.{state_of}
use Rattle.watch.specs.Runs.{AccountedRun}
use Rattle.watch.proofs.RunSteps.{same_state, accounted_from, accounted_push}
use Rattle.watch.proofs.run.run_calls.Goals as goal

pub loop-call-init : goal.loop-call-init
loop-call-init g c =
    let state = state_of g.B.Board.linked g.I.Kind.fields in
    let none = c.new-answers.ensures.items in
    (ap length none, (same_state (state c.in_ok-watch.watch), c.in_ok-watch.ensures.account))

pub loop-call-preserved : goal.loop-call-preserved
loop-call-preserved g c =
    let state = state_of g.B.Board.linked g.I.Kind.fields in
    let meant = entry_meant g.I.Kind.fields in
    let i = c.loop-call.call-index in
    let calls = c.args.calls.now in
    let call = c.call-item.result in
    let before = state c.loop-call.watch in
    let after = state c.call-answer.new.self in
    let first = state c.in_ok-watch.watch in
    let answers = vec_items c.loop-call.answers in
    let told = c.call-answer.ensures in
    let a = c.call-answer.result in
    let inv = c.loop-call.invariant in
    let items : vec_items c.push.new.self ≡ answers ++ a ∷ [] = c.in_ok-push.ensures.items in
    let here : i < length calls = c.loop-call-test.true in
    let more : map meant (take (i + 1) calls) ≡ map meant (take i calls) ++ meant call ∷ [] =
    ap (map meant) (take_more calls i call here ∙ ap (λ x. take i calls ++ x ∷ []) (sym c.call-item.is)) ∙ map_push meant (take i calls) call in
    let long : length answers ≡ length (map meant (take i calls)) = inv.0 ∙ sym (length-map (take i calls) meant ∙ length-take-le i calls (omega arith)) in
    let on = accounted_push g.I.Kind.overlapping conflicting first before after (map meant (take i calls)) answers (meant call) a long inv.1 told.step told.account in (
      ap length items ∙ length_push answers a ∙ ap (λ n. n + 1) inv.0,
      subst (λ l. AccountedRun g.I.Kind.overlapping conflicting first (history_of (map meant (take (i + 1) calls)) l) after) (sym items)
          (subst (λ l. AccountedRun g.I.Kind.overlapping conflicting first (history_of l (answers ++ a ∷ [])) after) (sym more) on),
    )

pub returns : goal.returns
returns g c =
    let state = state_of g.B.Board.linked g.I.Kind.fields in
    let calls = c.args.calls.now in
    let inv = c.loop-call.invariant in
    let all = take_all c.loop-call.call-index calls c.loop-call-test.false in
    record {
      answered = inv.0 ∙ omega (arith, c.loop-call.auto.call-index-end, c.loop-call-test.false);
      accounted = accounted_from g.I.Kind.overlapping conflicting (state c.in_ok-watch.watch) (opened_state c.args.bays (meant_marks g.I.Kind.fields c.args.marks.now)) c.in_ok-watch.ensures.opens.1 _ _
          (subst (λ l. AccountedRun g.I.Kind.overlapping conflicting (state c.in_ok-watch.watch) (history_of (map (entry_meant g.I.Kind.fields) l) (vec_items c.loop-call.answers)) (state c.loop-call.watch)) all inv.1);
    }
