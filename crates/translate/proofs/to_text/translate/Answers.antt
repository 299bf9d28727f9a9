use Rattle.std.proofs.Common.{◌<◌, length, refl}
use Rattle.std.proofs.ByRecursion.{All-from_get_or}
use Rattle.translate.proofs.KindFacts.{Laws}
use Rattle.translate.proofs.RoundTrips.{packs_again}
use Rattle.translate.proofs.to_text.translate.Given as given
use Rattle.translate.proofs.to_text.translate.Goals as goal

laws : (g : given.Over) → Laws g.K.PackedKind.layout g.K.TextKind.wording
laws g =
    let list = g.met.K.TextKind in
    record { tell = g.met.K.PackedKind.bits_are_an_item; shown = list.packed_is_shown; packed = list.shown_is_packed; others = list.others_are_refused }

pub returns-clause-again : goal.returns-clause-again
returns-clause-again g c =
    let bytes = c.args.bytes.now in
    let small = All-from_get_or (λ b. b < 256) bytes 0 (λ i _. (c.type_inv.bytes i).fits) in
    λ name known. packs_again _ _ (laws g) name known bytes (length c.args.out.now) small _ refl
