use Rattle.std.proofs.Common.{◌+◌, ◌≤◌, ◌++◌, length, sym, ap, ◌∙◌, arith}
use Rattle.items.specs.Lines.{spaced, ending, pasted}
use Rattle.items.proofs.Fitting.{length_line, fits_room}
use Rattle.items.proofs.Pasting.{pasted_pieces}
use Rattle.items.proofs.line.write_line.Goals as goal
use Rattle.items.proofs.line.write_line.Goals.{In_ok-end}

-- the memory has room for the line
roomy : (c : In_ok-end) → c.args.at + (length c.args.word.now + (length (spaced c.args.first) + length (ending c.args.rest.now))) ≤ length c.args.out.now
roomy c =
    let room = fits_room (length c.args.out.now) c.args.at _ c.in_ok-end.end (sym c.line_end.ensures ∙ c.in_ok-end.was) in
    omega (arith, length_line c.args.word.now c.args.first c.args.rest.now, room.1)

pub put_bytes-requires : goal.put_bytes-requires
put_bytes-requires c = omega (arith, roomy (goal.at.put_bytes-requires c).In_ok-end)

pub put_spaced-place-requires : goal.put_spaced-place-requires
put_spaced-place-requires c = omega (arith, roomy (goal.at.put_spaced-place-requires c).In_ok-end, c.put_bytes.auto.out)

pub put_ending-requires : goal.put_ending-requires
put_ending-requires c = omega (arith, roomy (goal.at.put_ending-requires c).In_ok-end, c.put_bytes.auto.out, c.put_spaced-place.auto.out, c.put_spaced-place.ensures.place)

pub returns : goal.returns
returns c =
    let out = c.args.out.now in
    let at = c.args.at in
    let word = c.args.word.now in
    let first = spaced c.args.first in
    let rest = ending c.args.rest.now in
    let place = at + length word in
    record {
      place = sym c.in_ok-end.was ∙ c.line_end.ensures;
      memory = c.put_ending.ensures
          ∙ ap (λ p. pasted c.put_spaced-place.new.out p rest) c.put_spaced-place.ensures.place
          ∙ ap (λ d. pasted d (place + length first) rest) c.put_spaced-place.ensures.memory
          ∙ sym (pasted_pieces c.put_bytes.new.out place first rest)
          ∙ ap (λ d. pasted d place (first ++ rest)) c.put_bytes.ensures
          ∙ sym (pasted_pieces out at word (first ++ rest));
    }
