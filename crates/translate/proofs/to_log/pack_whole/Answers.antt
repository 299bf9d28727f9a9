use Rattle.std.proofs.Common.{◌≡◌, ℕ, ◌-◌, ◌/◌, ◌<◌, min, List, length, take, drop, replicate, Ok, Err, Result, sym, refl, ap, ◌∙◌, arith, length-take-le}
use lib.ListN.{length-replicate}
use Rattle.std.proofs.ByRecursion.{All-from_get_or}
use Rattle.std.proofs.lemmas.Result.{err_from_is_err_and}
use Rattle.items.specs.Kinds.{meant}
use Rattle.items.specs.declared.refusal.Refusal.{Refusal}
use Rattle.packed.specs.Bits.{bytes_of}
use Rattle.packed.specs.Packing.{bit_room}
use Rattle.packed.proofs.Steps.{meant_err}
use Rattle.translate.specs.Packs.{packed_bits}
use Rattle.translate.specs.Translation.{translated_memory}
use Rattle.translate.proofs.Packings.{packed_room, packed_fits, packed_count, packed_bytes}
use Rattle.translate.proofs.KindFacts.{Laws}
use Rattle.translate.proofs.RoundTrips.{lists_again}
use Rattle.translate.proofs.to_log.pack_whole.Given as given
use Rattle.translate.proofs.to_log.pack_whole.Goals as goal
use Rattle.translate.proofs.to_log.pack_whole.Goals.{In_ok-pack}

laws : (g : given.Over) → Laws g.K.PackedKind.layout g.K.TextKind.wording
laws g =
    let log = g.met.K.PackedKind in
    let list = g.met.K.TextKind in
    record { tell = log.bits_are_an_item; shown = list.packed_is_shown; packed = list.shown_is_packed; others = list.others_are_refused }

-- a log may use as much of the trial's memory as of the caller's
trial_room : (xs : List ℕ) (room n : ℕ) → length xs ≡ 65536 → room ≡ min n 65536 → bit_room (length (take (room - 0) (drop 0 xs))) ≡ bit_room n
trial_room xs room n all is =
    let short : length (take (room - 0) xs) ≡ room - 0 = length-take-le (room - 0) xs (omega arith) in
    omega arith

pub returns-in_err-pack : goal.returns-in_err-pack
returns-in_err-pack g c =
    let layout = g.K.PackedKind.layout in
    let kind = g.K.TextKind.wording in
    let text = c.args.text.now in
    let out = c.args.out.now in
    let room = c.min-room.result in
    let trial = replicate 65536 0 in
    let e = c.in_err-pack.field-0.0 in
    let p = err_from_is_err_and c.from_residual.result c.from_residual.ensures.1 in
    let tried : ◌≡◌ {A = Result ℕ Refusal} (Err e) (meant (λ bits. length bits / 8) (packed_bits layout kind text (length (take (room - 0) (drop 0 trial))))) = c.in_err-pack.ensures.answer in
    let same = packed_room layout kind text (length (take (room - 0) (drop 0 trial))) (length out) (trial_room trial room (length out) (length-replicate {A = ℕ} 65536 0) c.min-room.ensures) in
    let refused = sym same ∙ meant_err (λ bits. length bits / 8) (packed_bits layout kind text (length (take (room - 0) (drop 0 trial)))) e tried in
    record {
      answer = p.1 ∙ ap Err p.2 ∙ sym (ap (λ x. meant length (meant bytes_of x)) refused);
      memory = sym (ap (λ x. translated_memory out (meant bytes_of x)) refused);
      again = λ name known. lists_again layout kind (laws g) name known text (length out) _ refl;
    }

pub returns : goal.returns
returns g c =
    let layout = g.K.PackedKind.layout in
    let kind = g.K.TextKind.wording in
    let text = c.args.text.now in
    let out = c.args.out.now in
    let after = c.pack-2.new.out in
    let room = c.min-room.result in
    let trial = replicate 65536 0 in
    let n = c.in_ok-pack.field-0 in
    let tried : ◌≡◌ {A = Result ℕ Refusal} (Ok n) (meant (λ bits. length bits / 8) (packed_bits layout kind text (length (take (room - 0) (drop 0 trial))))) = c.in_ok-pack.ensures.answer in
    let same = packed_room layout kind text (length (take (room - 0) (drop 0 trial))) (length out) (trial_room trial room (length out) (length-replicate {A = ℕ} 65536 0) c.min-room.ensures) in
    let fits = packed_fits layout kind text (length out) in
    let was = All-from_get_or (λ b. b < 256) out 0 (λ i _. ((goal.at.returns g c).In_ok-pack.type_inv.out i).fits) in
    let small = All-from_get_or (λ b. b < 256) after 0 (λ i _. (c.type_inv.out i).fits) in
    record {
      answer = c.pack-2.ensures.answer ∙ packed_count (length out) (packed_bits layout kind text (length out)) fits;
      memory = packed_bytes out after (packed_bits layout kind text (length out)) n fits was small (ap (meant (λ bits. length bits / 8)) (sym same) ∙ sym tried) c.pack-2.ensures.memory;
      again = λ name known. lists_again layout kind (laws g) name known text (length out) _ refl;
    }
