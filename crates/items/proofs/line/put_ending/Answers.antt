use Rattle.std.proofs.Common.{◌+◌, length, get_or, drop, sym, ap, ◌∙◌, arith}
use Rattle.std.proofs.lemmas.List.{at_drop_all}
use Rattle.items.specs.Lines.{ending, spaced, pasted}
use Rattle.items.proofs.Fitting.{length_from, ending_from}
use Rattle.items.proofs.Pasting.{pasted_one, pasted_pieces}
use Rattle.items.proofs.line.put_ending.Goals as goal

pub put_spaced-place-requires : goal.put_spaced-place-requires
put_spaced-place-requires c = omega (arith, length_from c.args.numbers.now c.loop-n.n-index c.loop-n-test.true, c.loop-n.invariant.0)

pub loop-n-preserved : goal.loop-n-preserved
loop-n-preserved c =
    let ns = c.args.numbers.now in
    let i = c.loop-n.n-index in
    let out = c.loop-n.out in
    let place = c.loop-n.place in
    let told = c.put_spaced-place.ensures in
    let on = ending (drop (i + 1) ns) in
    let long = length_from ns i c.loop-n-test.true in (
      omega (arith, c.loop-n.invariant.0, told.place, c.put_spaced-place.auto.out),
      ap (λ d. pasted d c.put_spaced-place.result on) told.memory
          ∙ ap (λ p. pasted (pasted out place (spaced (get_or ns i 0))) p on) told.place
          ∙ sym (pasted_pieces out place (spaced (get_or ns i 0)) on)
          ∙ sym (ap (pasted out place) (ending_from ns i c.loop-n-test.true))
          ∙ c.loop-n.invariant.1,
    )

pub bounds-out-place : goal.bounds-out-place
bounds-out-place c =
    let rest = at_drop_all ending c.args.numbers.now c.loop-n.n-index c.loop-n-test.false in
    omega (arith, ap length rest, c.loop-n.invariant.0)

pub returns : goal.returns
returns c =
    let rest = at_drop_all ending c.args.numbers.now c.loop-n.n-index c.loop-n-test.false in
    pasted_one c.loop-n.out c.loop-n.place 10 ∙ sym (ap (pasted c.loop-n.out c.loop-n.place) rest) ∙ c.loop-n.invariant.1
