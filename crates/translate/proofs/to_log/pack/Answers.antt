use Rattle.std.proofs.Common.{◌≡◌, ◌+◌, ◌/◌, Bool, List, ◌++◌, length, Ok, Err, Result, sym, refl, ap, ◌∙◌, subst, add-zero, arith, length-append, length-drop, rules}
use Rattle.std.proofs.lemmas.Result.{err_from_is_err_and}
use Rattle.items.specs.Entries.{entry_meant}
use Rattle.items.specs.Kinds.{meant}
use Rattle.items.specs.Lines.{pasted}
use Rattle.items.specs.declared.refusal.Refusal.{Refusal}
use Rattle.items.proofs.Pasting.{pasted_none}
use Rattle.packed.specs.declared.writing.Writing.{Writing}
use Rattle.packed.specs.Bits.{bits_of}
use Rattle.std.specs.Option.{option_map}
use Rattle.packed.proofs.Closures.{kept_ok, turned_err}
use Rattle.packed.specs.Packing.{told, packed_memory, header_bits, entry_bits, padding_bits, padded, header_packs, entry_packs}
use Rattle.packed.proofs.Walks.{MovedBy, step_taken_by, step_end_by, step_refused_by}
use Rattle.text.specs.Whole.{list_listing}
use Rattle.translate.specs.Packs.{entries_bits as listing_bits, log_bits, packs, packed_bits, PackedInto}
use Rattle.text.specs.Reads.{line_at, has_code}
use Rattle.translate.specs.Translation.{next}
use Rattle.packed.proofs.WriteTrips.{entry_packed, header_packed}
use Rattle.packed.specs.Readers.{listing_from}
use Rattle.text.specs.ReaderLaws.{finds_lines, begins_at_none}
use Rattle.translate.proofs.Packings.{packs_begin, packs_on, packs_refused, packs_stopped, packs_end, packed_as, packs_place, ZeroBehind, packed_pieces, packed_zero, byte_count}
use Rattle.translate.proofs.to_log.pack.Given as given
use Rattle.translate.proofs.to_log.pack.Goals as goal
use Rattle.translate.proofs.to_log.pack.Goals.{In_ok-log, In-Some}

module _ (g : given.Over) (c : In_ok-log g) where
  -- the header was written
  wrote : c.header.result ≡ Ok c.in_ok-log.log
  wrote = kept_ok _ c.header.result c.map_err.result c.in_ok-log.log c.map_err.ensures.cases c.in_ok-log.was

  -- the memory is as long as it was
  same-room : length c.header.new.out ≡ length c.args.out.now
  same-room = c.header.auto.out

  -- the log was begun with the bays of the first line
  begun-log : header_packs g.K.PackedKind.layout.code (length c.header.new.out) c.in_ok-reader.reader.at.bays ≡ Ok c.in_ok-log.log.log
  begun-log =
      let heads = header_packs g.K.PackedKind.layout.code in
      sym (sym (ap (told (λ x. x.log)) wrote) ∙ c.header.ensures.answer ∙ ap (λ n. heads n c.bays.result) (sym same-room) ∙ ap (heads (length c.header.new.out)) c.bays.ensures)

  begun_place : c.in_ok-log.log.log.place ≡ 16
  begun_place = (header_packed g.K.PackedKind.layout.code (length c.header.new.out) c.in_ok-reader.reader.at.bays c.in_ok-log.log.log begun-log).place

  -- the whole packing, by how the pass goes on
  outcome : (x : Result Writing Refusal) → packs g.K.PackedKind.layout (length c.header.new.out) (list_listing g.K.TextKind.wording c.args.text.now c.in_ok-reader.reader.at) c.in_ok-log.log.log ≡ x → packed_bits g.K.PackedKind.layout g.K.TextKind.wording c.args.text.now (length c.args.out.now) ≡ meant (λ _. log_bits g.K.PackedKind.layout c.in_ok-reader.reader.at.bays (list_listing g.K.TextKind.wording c.args.text.now c.in_ok-reader.reader.at)) x
  outcome x is =
      let layout = g.K.PackedKind.layout in
      let kind = g.K.TextKind.wording in
      let text = c.args.text.now in
      let room = length c.header.new.out in
      let reader = c.in_ok-reader.reader.at in
      sym (ap (packed_bits layout kind text) same-room)
      ∙ packed_as layout kind text room reader x (sym c.in_ok-reader.ensures) (ap (λ y. next y (packs layout room (list_listing kind text reader))) begun-log ∙ is)

  -- what the header and the entries leave
  header-and-others : (rest : List Bool) → pasted (bits_of c.header.new.out) c.in_ok-log.log.log.place (padded c.in_ok-log.log.log.place rest) ≡ pasted (bits_of c.args.out.now) 0 (padded 0 (header_bits g.K.PackedKind.layout.code c.in_ok-reader.reader.at.bays ++ rest))
  header-and-others rest =
      let d = bits_of c.args.out.now in
      let place = c.in_ok-log.log.log.place in
      let head = header_bits g.K.PackedKind.layout.code c.in_ok-reader.reader.at.bays in
      ap (λ m. pasted m place (padded place rest)) (c.header.ensures.memory ∙ ap (λ x. packed_memory x d 0 (header_bits g.K.PackedKind.layout.code c.bays.result)) wrote ∙ ap (λ b. pasted d 0 (padded 0 (header_bits g.K.PackedKind.layout.code b))) c.bays.ensures)
      ∙ ap (λ n. pasted (pasted d 0 (padded 0 head)) n (padded n rest)) begun_place
      ∙ packed_pieces d 0 head rest

pub loop-entry-init : goal.loop-entry-init
loop-entry-init g c =
    let layout = g.K.PackedKind.layout in
    let kind = g.K.TextKind.wording in
    let text = c.args.text.now in
    let reader = c.in_ok-reader.reader.at in
    let log = c.in_ok-log.log.log in
    let memory = bits_of c.header.new.out in (
      packs_begin layout kind text (length c.header.new.out) reader log (begins_at_none (has_code layout.code) text reader (sym c.in_ok-reader.ensures)) (begun-log g c),
      subst (ZeroBehind memory) (sym (begun_place g c)) (pasted_none memory 16),
      refl,
    )

moved : (g : given.Over) (c : In-Some g) → MovedBy 1 (line_at g.K.TextKind.wording) c.args.text.now c.loop-entry.reader.at c.next.new.self.at (entry_meant g.K.Kind.fields c.in-Some.entry)
moved g c =
    let told = c.in_ok-entry.ensures in
    let kind = g.K.TextKind.wording in
    step_taken_by 1 (line_at kind) (finds_lines kind) c.args.text.now c.loop-entry.reader.at _ refl _ _ _ (sym (ap (λ s. Ok (option_map (entry_meant g.K.Kind.fields) s)) c.in-Some.is) ∙ told.answer) told.at

pub loop-entry-smaller : goal.loop-entry-smaller
loop-entry-smaller g c = let m = moved g (goal.at.loop-entry-smaller g c).In-Some in omega (arith, m.further, m.left, length-drop c.loop-entry.reader.at.place c.args.text.now)

pub returns-in_err-entry : goal.returns-in_err-entry
returns-in_err-entry g c =
    let layout = g.K.PackedKind.layout in
    let kind = g.K.TextKind.wording in
    let text = c.args.text.now in
    let h = (goal.at.returns-in_err-entry g c).In_ok-log in
    let e = c.in_err-entry.field-0.0 in
    let p = err_from_is_err_and c.from_residual-in_err-entry.result c.from_residual-in_err-entry.ensures.1 in
    let told = step_refused_by 1 (line_at kind) (finds_lines kind) text c.loop-entry.reader.at _ refl _ e c.in_err-entry.ensures.answer in
    let none = outcome g h (Err e) (packs_stopped layout kind text (length c.header.new.out) c.loop-entry.invariant.0 e told.0 told.1) in
    record {
      answer = p.1 ∙ ap Err p.2 ∙ sym (ap (meant (λ bits. length bits / 8)) none);
      memory = subst (λ x. PackedInto c.args.out.now x c.loop-entry.out) (sym none) tt;
    }

pub returns-in_err-log-2 : goal.returns-in_err-log-2
returns-in_err-log-2 g c =
    let layout = g.K.PackedKind.layout in
    let kind = g.K.TextKind.wording in
    let h = (goal.at.returns-in_err-log-2 g c).In_ok-log in
    let x = c.in_err-log-2.field-0.0 in
    let p = err_from_is_err_and c.from_residual-in_err-log-2.result c.from_residual-in_err-log-2.ensures.1 in
    let e = entry_meant g.K.Kind.fields c.in-Some.entry in
    let back = turned_err _ (λ b. b.refusal) (λ b r k. search rules) c.entry.result c.map_err-in-Some.result x c.map_err-in-Some.ensures.cases c.in_err-log-2.was in
    let refused : entry_packs layout (length c.header.new.out) c.loop-entry.log.log e ≡ Err x =
    sym (ap Err back.2 ∙ sym (ap (told (λ y. y.log)) back.1) ∙ c.entry.ensures.answer ∙ ap (λ n. entry_packs layout n c.loop-entry.log.log e) c.loop-entry.auto.out) in
    let none = outcome g h (Err x) (packs_refused layout kind c.args.text.now (length c.header.new.out) c.loop-entry.invariant.0 c.next.new.self.at e x (moved g (goal.at.returns-in_err-log-2 g c).In-Some) refused) in
    record {
      answer = p.1 ∙ ap Err p.2 ∙ sym (ap (meant (λ bits. length bits / 8)) none);
      memory = subst (λ y. PackedInto c.args.out.now y c.entry.new.out) (sym none) tt;
    }

pub loop-entry-preserved : goal.loop-entry-preserved
loop-entry-preserved g c =
    let layout = g.K.PackedKind.layout in
    let kind = g.K.TextKind.wording in
    let text = c.args.text.now in
    let room = length c.header.new.out in
    let inv = c.loop-entry.invariant in
    let written = kept_ok _ c.entry.result c.map_err-in-Some.result c.in_ok-log-2.log c.map_err-in-Some.ensures.cases c.in_ok-log-2.was in
    let d = bits_of c.loop-entry.out in
    let after = bits_of c.entry.new.out in
    let p = c.loop-entry.log.log in
    let p' = c.in_ok-log-2.log.log in
    let e = entry_meant g.K.Kind.fields c.in-Some.entry in
    let m = moved g (goal.at.loop-entry-preserved g c).In-Some in
    let added : entry_packs layout room p e ≡ Ok p' = sym (sym (ap (told (λ x. x.log)) written) ∙ c.entry.ensures.answer ∙ ap (λ n. entry_packs layout n p e) c.loop-entry.auto.out) in
    let further = (entry_packed layout room p e p' added).place in
    let bits = entry_bits layout e in
    let memory = c.entry.ensures.memory ∙ ap (λ x. packed_memory x d p.place bits) written in
    let rest = listing_bits layout (listing_from (line_at kind) text c.next.new.self.at) in (
      packs_on layout kind text room inv.0 c.next.new.self.at e p' m added,
      subst (ZeroBehind after) (sym further) (subst (λ b. ZeroBehind b (p.place + length bits)) (sym memory) (packed_zero d p.place bits)),
      ap (λ b. pasted b p'.place (padded p'.place rest)) memory
          ∙ ap (λ n. pasted (pasted d p.place (padded p.place bits)) n (padded n rest)) further
          ∙ packed_pieces d p.place bits rest
          ∙ sym (ap (λ l. pasted d p.place (padded p.place (listing_bits layout l))) m.lists)
          ∙ inv.2,
    )

pub returns : goal.returns
returns g c =
    let layout = g.K.PackedKind.layout in
    let kind = g.K.TextKind.wording in
    let text = c.args.text.now in
    let room = length c.header.new.out in
    let h = (goal.at.returns g c).In_ok-log in
    let inv = c.loop-entry.invariant in
    let reader = c.in_ok-reader.reader.at in
    let log = c.loop-entry.log.log in
    let d = bits_of c.loop-entry.out in
    let list = list_listing kind text reader in
    let head = header_bits layout.code reader.bays in
    let told = c.in_ok-entry.ensures in
    let ends = step_end_by 1 (line_at kind) (finds_lines kind) text c.loop-entry.reader.at _ refl _ (sym (ap (λ s. Ok (option_map (entry_meant g.K.Kind.fields) s)) c.in_default.is) ∙ told.answer) in
    let whole = packs_end layout kind text room inv.0 ends in
    let done = outcome g h (Ok log) whole in
    let long : log.place ≡ length (head ++ listing_bits layout list) = omega (arith, packs_place layout room list c.in_ok-log.log.log log whole, begun_place g h, length-append head (listing_bits layout list)) in
    record {
      answer = ap Ok (c.len.ensures ∙ ap (λ x. (x.place + 7) / 8) c.finish.ensures ∙ byte_count log.place (head ++ listing_bits layout list) long) ∙ sym (ap (meant (λ bits. length bits / 8)) done);
      memory = subst (λ x. PackedInto c.args.out.now x c.loop-entry.out) (sym done)
          (sym inv.1
          ∙ sym (ap (λ n. pasted d log.place (padding_bits n)) (add-zero log.place))
          ∙ sym (ap (λ l. pasted d log.place (padded log.place (listing_bits layout l))) ends)
          ∙ inv.2
          ∙ header-and-others g h (listing_bits layout list));
    }
