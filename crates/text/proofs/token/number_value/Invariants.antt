use Rattle.std.proofs.Common.{◌≡◌, ◌^◌, ◌<◌, true, drop}
use Rattle.std.specs.Str.{all_ascii_digits}
use Rattle.text.specs.Words.{read_on}
use Rattle.text.proofs.token.number_value.Given as goal

abbrev pub invariant-loop-b : goal.invariant-loop-b
invariant-loop-b l = (read_on l.value (drop l.b-index l.digits) ≡ read_on 0 l.digits) × (all_ascii_digits (drop l.b-index l.digits) ≡ true) × (l.value < 10 ^ l.b-index)
