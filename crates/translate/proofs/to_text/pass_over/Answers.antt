use Rattle.std.proofs.Common.{◌≡◌, length, Ok, Err, Result, [], sym, ap, ◌∙◌, subst, arith}
use Rattle.std.specs.Option.{option_map}
use Rattle.std.proofs.lemmas.Result.{err_from_is_err_and}
use Rattle.items.specs.Entries.{entry_meant}
use Rattle.items.specs.Kinds.{meant}
use Rattle.items.specs.declared.refusal.Refusal.{Refusal}
use Rattle.packed.specs.Headers.{one_kind, header_of}
use Rattle.packed.specs.Logs.{log_listing}
use Rattle.packed.specs.Readers.{listing_at}
use Rattle.packed.specs.Readings.{begun}
use Rattle.packed.proofs.Steps.{opened_lists, meant_err, Moved, step_taken, step_end, step_refused}
use Rattle.text.specs.Lists.{first_line, entry_line}
use Rattle.text.specs.Writing.{begins, adds, writing_after}
use Rattle.translate.specs.Translation.{lines_of, list_text, translated_behind, translated, writes}
use Rattle.translate.proofs.Memory.{Written, written_on, written_all, passes, passes_not}
use Rattle.translate.proofs.Passes.{answered_ok, answered_err, begins_place, adds_place, pass_begins, pass_on, pass_refused, pass_stopped, pass_ends, translated_as, translated_not_begun, text_length}
use Rattle.translate.proofs.to_text.pass_over.Given as given
use Rattle.translate.proofs.to_text.pass_over.Goals as goal
use Rattle.translate.proofs.to_text.pass_over.Goals.{In_ok-list, In-Some}

pub returns-in_err-reader : goal.returns-in_err-reader
returns-in_err-reader g c =
    let layout = g.K.PackedKind.layout in
    let out = c.args.out.now in
    let p = err_from_is_err_and c.from_residual.result c.from_residual.ensures.1 in
    let none = ap (translated_behind layout g.K.TextKind.wording c.args.bytes.now (length out)) (meant_err begun (header_of (one_kind layout.code) c.args.bytes.now) _ c.in_err-reader.ensures) in
    record {
      answer = p.1 ∙ ap Err p.2 ∙ sym (ap (meant length) none);
      memory = passes_not g.P.Pass.left out [] out [] _ _ none (sym (g.met.P.Pass.left_nothing out 0));
    }

pub returns-in_err-list : goal.returns-in_err-list
returns-in_err-list g c =
    let layout = g.K.PackedKind.layout in
    let kind = g.K.TextKind.wording in
    let out = c.args.out.now in
    let p = err_from_is_err_and c.from_residual-in_err-list.result c.from_residual-in_err-list.ensures.1 in
    let told = c.in_err-list.ensures in
    let none = translated_not_begun layout kind c.args.bytes.now (length out) c.in_ok-reader.reader.at _ c.in_ok-reader.ensures (sym (told.answer ∙ ap (begins kind layout.code (length out)) c.bays.ensures)) in
    record {
      answer = p.1 ∙ ap Err p.2 ∙ sym (ap (meant length) none);
      memory = passes_not g.P.Pass.left out [] c.begin.new.out [] _ _ none (told.memory ∙ sym (g.met.P.Pass.left_nothing out 0));
    }

module _ (g : given.Over) (c : In_ok-list g) where
  -- the memory is as long as it was
  same-room : length c.begin.new.out ≡ length c.args.out.now
  same-room = c.begin.auto.out

  -- the list was begun behind the header
  begun-list : begins g.K.TextKind.wording g.K.PackedKind.layout.code (length c.begin.new.out) c.in_ok-reader.reader.at.bays ≡ Ok c.in_ok-list.list.list
  begun-list =
      let begins-in = begins g.K.TextKind.wording g.K.PackedKind.layout.code in
      sym (c.in_ok-list.ensures.answer ∙ ap (λ n. begins-in n c.bays.result) (sym same-room) ∙ ap (begins-in (length c.begin.new.out)) c.bays.ensures)

  -- the whole translation, by how the pass goes on
  outcome : (x : Result _ Refusal) → writes g.K.TextKind.wording g.K.PackedKind.layout.code (length c.begin.new.out) (log_listing g.K.PackedKind.layout c.args.bytes.now c.in_ok-reader.reader.at.bays) c.in_ok-list.list.list ≡ x → translated g.K.PackedKind.layout g.K.TextKind.wording c.args.bytes.now (length c.args.out.now) ≡ meant (λ _. list_text g.K.TextKind.wording c.in_ok-reader.reader.at.bays (log_listing g.K.PackedKind.layout c.args.bytes.now c.in_ok-reader.reader.at.bays)) x
  outcome x is =
      sym (ap (translated g.K.PackedKind.layout g.K.TextKind.wording c.args.bytes.now) same-room)
      ∙ translated_as g.K.PackedKind.layout g.K.TextKind.wording c.args.bytes.now (length c.begin.new.out) c.in_ok-reader.reader.at c.in_ok-list.list.list x c.in_ok-reader.ensures begun-list is

pub loop-entry-init : goal.loop-entry-init
loop-entry-init g c =
    let layout = g.K.PackedKind.layout in
    let kind = g.K.TextKind.wording in
    let bytes = c.args.bytes.now in
    let reader = c.in_ok-reader.reader.at in
    let first = first_line kind reader.bays in (
      pass_begins layout kind bytes (length c.begin.new.out) reader c.in_ok-list.list.list c.in_ok-reader.ensures (begun-list g c),
      record {
        front = first;
        is = c.in_ok-list.ensures.memory ∙ ap (λ b. g.P.Pass.left c.args.out.now 0 (first_line kind b)) c.bays.ensures;
        long = sym (begins_place kind layout.code (length c.begin.new.out) reader.bays _ (begun-list g c)).0;
        all = sym (ap (λ l. list_text kind reader.bays l) (opened_lists layout bytes reader c.in_ok-reader.ensures));
      },
    )

moved : (g : given.Over) (c : In-Some g) → Moved g.K.PackedKind.layout c.args.bytes.now c.loop-entry.reader.at c.next.new.self.at (entry_meant g.K.Kind.fields c.in-Some.entry)
moved g c =
    let told = c.in_ok-entry.ensures in
    step_taken g.K.PackedKind.layout c.args.bytes.now c.loop-entry.invariant.0.short _ _ _ _ (sym (ap (λ s. Ok (option_map (entry_meant g.K.Kind.fields) s)) c.in-Some.is) ∙ told.answer) told.at

pub loop-entry-smaller : goal.loop-entry-smaller
loop-entry-smaller g c = let after = c.next.new.self in omega (arith, (moved g (goal.at.loop-entry-smaller g c).In-Some).further, after.within)

pub returns-in_err-entry : goal.returns-in_err-entry
returns-in_err-entry g c =
    let layout = g.K.PackedKind.layout in
    let kind = g.K.TextKind.wording in
    let bytes = c.args.bytes.now in
    let h = (goal.at.returns-in_err-entry g c).In_ok-list in
    let inv = c.loop-entry.invariant in
    let e = c.in_err-entry.field-0.0 in
    let p = err_from_is_err_and c.from_residual-in_err-entry.result c.from_residual-in_err-entry.ensures.1 in
    let told = step_refused layout bytes inv.0.short c.loop-entry.reader.at _ e c.in_err-entry.ensures.answer in
    let none = outcome g h (Err e) (pass_stopped layout kind bytes (length c.begin.new.out) inv.0 e told.0 told.1) in
    record {
      answer = p.1 ∙ ap Err p.2 ∙ sym (ap (meant length) none);
      memory = passes_not g.P.Pass.left c.args.out.now [] c.loop-entry.out inv.1.front e _ none inv.1.is;
    }

pub loop-entry-preserved : goal.loop-entry-preserved
loop-entry-preserved g c =
    let layout = g.K.PackedKind.layout in
    let kind = g.K.TextKind.wording in
    let bytes = c.args.bytes.now in
    let out = c.loop-entry.out in
    let w = c.loop-entry.list.list in
    let e = entry_meant g.K.Kind.fields c.in-Some.entry in
    let w' = c.entry.new.list.list in
    let inv = c.loop-entry.invariant in
    let told = c.in_ok-entry-2.ensures in
    let room = length c.begin.new.out in
    let m = moved g (goal.at.loop-entry-preserved g c).In-Some in
    let a = answered_ok (adds kind layout.code (length out) w e) told.answer in
    let added : adds kind layout.code room w e ≡ Ok w' = sym (ap (λ n. adds kind layout.code n w e) c.loop-entry.auto.out) ∙ a.1 ∙ ap Ok (sym (told.list ∙ ap (writing_after w) a.1)) in
    let rest = lines_of kind (listing_at layout bytes c.next.new.self.at) in
    let first = c.in_ok-reader.reader.at in
    let whole = list_text kind first.bays (log_listing layout bytes first.bays) in (
      pass_on layout kind bytes room inv.0 c.next.new.self.at e w' m added,
      written_on g.P.Pass.left c.args.out.now whole g.met.P.Pass.left_in_pieces out c.entry.new.out w.place w'.place (entry_line kind e) rest
          (subst (λ l. Written g.P.Pass.left c.args.out.now whole out w.place (lines_of kind l)) m.lists inv.1)
          told.memory
          (adds_place kind layout.code room w e w' added).0,
    )

pub returns-in_err-entry-2 : goal.returns-in_err-entry-2
returns-in_err-entry-2 g c =
    let layout = g.K.PackedKind.layout in
    let kind = g.K.TextKind.wording in
    let bytes = c.args.bytes.now in
    let h = (goal.at.returns-in_err-entry-2 g c).In_ok-list in
    let w = c.loop-entry.list.list in
    let e = entry_meant g.K.Kind.fields c.in-Some.entry in
    let inv = c.loop-entry.invariant in
    let told = c.in_err-entry-2.ensures in
    let x = c.in_err-entry-2.field-0.0 in
    let p = err_from_is_err_and c.from_residual-in_err-entry-2.result c.from_residual-in_err-entry-2.ensures.1 in
    let added = sym (ap (λ n. adds kind layout.code n w e) c.loop-entry.auto.out) ∙ answered_err (adds kind layout.code (length c.loop-entry.out) w e) x told.answer in
    let none = outcome g h (Err x) (pass_refused layout kind bytes (length c.begin.new.out) inv.0 c.next.new.self.at e x (moved g (goal.at.returns-in_err-entry-2 g c).In-Some) added) in
    record {
      answer = p.1 ∙ ap Err p.2 ∙ sym (ap (meant length) none);
      memory = passes_not g.P.Pass.left c.args.out.now [] c.entry.new.out inv.1.front x _ none (told.memory ∙ inv.1.is);
    }

pub returns : goal.returns
returns g c =
    let layout = g.K.PackedKind.layout in
    let kind = g.K.TextKind.wording in
    let bytes = c.args.bytes.now in
    let h = (goal.at.returns g c).In_ok-list in
    let first = c.in_ok-reader.reader.at in
    let inv = c.loop-entry.invariant in
    let room = length c.begin.new.out in
    let w = c.loop-entry.list.list in
    let told = c.in_ok-entry.ensures in
    let ends = step_end layout bytes inv.0.short c.loop-entry.reader.at _ (sym (ap (λ s. Ok (option_map (entry_meant g.K.Kind.fields) s)) c.in_default.is) ∙ told.answer) in
    let wrote = pass_ends layout kind bytes room inv.0 ends in
    let text = outcome g h (Ok w) wrote in
    let whole = list_text kind first.bays (log_listing layout bytes first.bays) in
    record {
      answer = ap Ok (c.len.ensures ∙ text_length layout kind bytes room first c.in_ok-list.list.list w (begun-list g h) wrote) ∙ sym (ap (meant length) text);
      memory = passes g.P.Pass.left c.args.out.now [] c.loop-entry.out whole _ text
          (written_all g.P.Pass.left c.args.out.now whole c.loop-entry.out w.place (subst (λ l. Written g.P.Pass.left c.args.out.now whole c.loop-entry.out w.place (lines_of kind l)) ends inv.1));
    }
