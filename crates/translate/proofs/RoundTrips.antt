-- From a log to a list and back, and from a list to a log and back. Assumes nothing.
use Rattle.std.proofs.Common.{◌≡◌, ℕ, ◌+◌, ◌/◌, ◌<◌, ◌≤◌, List, [], ◌++◌, length, Some, Ok, Err, Result, sym, refl, ap, ◌∙◌, append-nil, arith}
use Rattle.std.specs.List.{AllByRecursion}
use Rattle.std.proofs.lemmas.List.{length-append, drop_at}
use Rattle.std.specs.Option.{option_map}
use Rattle.items.specs.KindNames.{code_of}
use Rattle.items.specs.Kinds.{Layout, Wording, meant}
use Rattle.items.specs.declared.kind_name.KindName.{KindName}
use Rattle.items.specs.declared.entry.Entry.{Entry}
use Rattle.items.specs.declared.refusal.Refusal.{Refusal}
use Rattle.packed.specs.declared.header.Header.{Header}
use Rattle.packed.specs.declared.reading.Reading.{Reading}
use Rattle.packed.specs.Bits.{bytes_of}
use Rattle.packed.specs.Headers.{any_kind, one_kind, header_of}
use Rattle.packed.specs.Logs.{finished, entries_listed, entries_of, listing_by, Contents, with_bays, log_listing, behind_header, log_of}
use Rattle.packed.specs.Packing.{header_bits, header_packs, bit_room}
use Rattle.packed.specs.Trips.{entries_bits, unpadded_bits, log_bytes}
use Rattle.packed.proofs.LogTrips.{log_again, log_bytes_long, log_tells, log_reads}
use Rattle.packed.proofs.WriteTrips.{header_packed}
use Rattle.text.specs.Lists.{first_line, entry_lines, normal_form}
use Rattle.text.specs.Reads.{line_at, has_code, list_begun, first_line_of, kind_told}
use Rattle.text.specs.Trips.{ValidEntry}
use Rattle.text.specs.Words.{before}
use Rattle.text.specs.Writing.{begins}
use Rattle.text.proofs.FirstTrips.{first_line_reads_back, list_begun_lem}
use Rattle.text.proofs.LineWalks.{listed_before, listed_entries}
use Rattle.text.proofs.ListBacks.{with_bays_is, contents_written_back, contents_valid}
use Rattle.text.proofs.ListTrips.{lines_listed}
use Rattle.packed.specs.Readers.{contents_from}
use Rattle.text.specs.Whole.{list_listing, list_of}
use Rattle.translate.specs.Packs.{log_bits, packs, packed_behind, packed_bits, log_by_kind}
use Rattle.translate.specs.Translation.{list_text, next, writes, plans, translated_behind, translated, layout_of, wording_of, text_by_kind}
use Rattle.translate.specs.Trips.{Known, PacksAgain, ListsAgain, LogComesBack, ListComesBack}
use Rattle.translate.proofs.KindFacts.{Laws, holdable_valid, valid_holdable, holdable_among}
use Rattle.translate.proofs.Listed.{bits_are, text_is, log_is}
use Rattle.translate.proofs.Packings.{packs_place, packs_within}
use Rattle.translate.proofs.WholeFits.{packed_listed, written_listed, listed_before_lem, packs_fit, header_fits, writes_fit, begin_fits}

-- what goes on only if nothing was refused
next_is : {S : Type 0} (x : Result S Refusal) (go : S → Result S Refusal) (t : S) → next x go ≡ Ok t → (s : S) × (x ≡ Ok s) × (go s ≡ Ok t)
next_is (Ok s) go t h = (s, refl, h)
next_is (Err r) go t h = absurd cc

meant_is : {I J : Type 0} (f : I → J) (x : Result I Refusal) (j : J) → meant f x ≡ Ok j → (i : I) × (x ≡ Ok i) × (f i ≡ j)
meant_is f (Ok i) j h = (i, refl, cc)
meant_is f (Err r) j h = absurd cc

module _ (layout : Layout) (kind : Wording) (laws : Laws layout kind) (name : KindName) (known : Known name layout kind) where
  -- what was translated: its number of bays and its entries
  record Listed (bytes text : List ℕ) : Type 0 where
    pub bays : ℕ
    pub entries : List (Entry (List ℕ))
    pub reads : log_of layout bytes ≡ Ok (record { bays = bays; entries = entries })
    pub text_is : first_line kind bays ++ entry_lines kind entries ≡ text

  listed_behind : (bytes text : List ℕ) (room : ℕ) (x : Result Header Refusal) → header_of (one_kind layout.code) bytes ≡ x → translated_behind layout kind bytes room x ≡ Ok text → Listed bytes text
  listed_behind bytes text room (Err r) is h = absurd cc
  listed_behind bytes text room (Ok head) is h =
      let bays = head.bays in
      let list = log_listing layout bytes bays in
      let told = meant_is (λ _. list_text kind bays list) (plans kind layout.code room bays list) text h in
      let on = next_is (begins kind layout.code room bays) (writes kind layout.code room list) told.0 told.1 in
      let whole = written_listed kind layout.code room list 1 on.0 told.0 on.2 in
      record {
        bays = bays;
        entries = entries_listed list;
        reads = ap (behind_header layout bytes) is ∙ ap (with_bays bays) whole;
        text_is = sym (text_is kind bays list) ∙ told.2;
      }

  -- the list of a log, packed again, is the log
  pub log_comes_back : (bytes text : List ℕ) (room room' : ℕ) → AllByRecursion (λ b. b < 256) bytes → translated layout kind bytes room ≡ Ok text → length bytes ≤ room' → meant bytes_of (packed_bits layout kind text room') ≡ Ok bytes
  log_comes_back bytes text room room' small h fits =
      let t = listed_behind bytes text room (header_of (one_kind layout.code) bytes) refl h in
      let bays = t.bays in
      let es = t.entries in
      let r = log_again layout laws.tell bytes small (record { bays = bays; entries = es }) t.reads in
      let first = first_line kind bays in
      let lines = entry_lines kind es in
      let at : Reading = record { bays = bays; place = length first; taken = 0 } in
      let begun : list_begun (has_code layout.code) text ≡ Ok at = ap (list_begun (has_code layout.code)) (sym t.text_is) ∙ ap (λ n. list_begun (has_code n) (first ++ lines)) (sym known.code) ∙ list_begun_lem kind name bays lines known.word r.some r.few in
      let list : list_listing kind text at ≡ listed_before es finished =
      ap (λ l. list_listing kind l at) (sym t.text_is)
      ∙ ap (λ l. listing_by (line_at kind bays) l 0) (drop_at first lines (length first) refl ∙ sym (append-nil lines))
      ∙ lines_listed kind bays r.few es [] (holdable_valid layout kind laws bays es r.holdable) in
      let short = r.short in
      let long : (length (unpadded_bits layout bays es) + 7) / 8 ≡ length bytes = sym (log_bytes_long layout bays es) ∙ ap length r.again in
      let parts : length (unpadded_bits layout bays es) ≡ 16 + length (entries_bits layout es) = length-append (header_bits layout.code bays) (entries_bits layout es) in
      let room-is : 16 + length (entries_bits layout es) ≤ bit_room room' = omega arith in
      let head = header_fits layout.code room' bays r.some r.few (omega arith) in
      let rest = packs_fit layout room' es (record { code = layout.code; bays = bays; place = 16; entries = 0 }) refl (holdable_among layout bays es r.holdable) room-is in
      ap (λ x. meant bytes_of (packed_behind layout kind text room' x)) begun
      ∙ ap (λ l. meant bytes_of (meant (λ _. log_bits layout bays l) (next (header_packs layout.code room' bays) (packs layout room' l)))) list
      ∙ ap (λ x. meant bytes_of (meant (λ _. log_bits layout bays (listed_before es finished)) (next x (packs layout room' (listed_before es finished))))) head
      ∙ ap (λ x. meant bytes_of (meant (λ _. log_bits layout bays (listed_before es finished)) x)) rest.1
      ∙ ap (λ b. Ok (bytes_of b)) (log_is layout bays (listed_before es finished))
      ∙ ap (λ l. Ok (log_bytes layout bays l)) (listed_before_lem es)
      ∙ ap Ok r.again

  -- what was packed: its number of bays and its entries
  record Packed (text bytes : List ℕ) : Type 0 where
    pub bays : ℕ
    pub entries : List (Entry (List ℕ))
    pub some : 1 ≤ bays
    pub few : bays ≤ 32
    pub short : length (unpadded_bits layout bays entries) ≤ 524288
    pub valid : AllByRecursion (ValidEntry kind bays) entries
    pub text_is : normal_form text ≡ first_line kind bays ++ entry_lines kind entries
    pub bytes_are : log_bytes layout bays entries ≡ bytes

  packed_behind_lem : (text bytes : List ℕ) (room : ℕ) (x : Result Reading Refusal) → list_begun (has_code layout.code) text ≡ x → meant bytes_of (packed_behind layout kind text room x) ≡ Ok bytes → Packed text bytes
  packed_behind_lem text bytes room (Err r) is h = absurd cc
  packed_behind_lem text bytes room (Ok r) is h =
      let bays = r.bays in
      let list = list_listing kind text r in
      let es = entries_listed list in
      let bits = meant_is bytes_of (packed_behind layout kind text room (Ok r)) bytes h in
      let told = meant_is (λ _. log_bits layout bays list) (next (header_packs layout.code room bays) (packs layout room list)) bits.0 bits.1 in
      let on = next_is (header_packs layout.code room bays) (packs layout room list) told.0 told.1 in
      let head = header_packed layout.code room bays on.0 on.1 in
      let within = packs_within layout room list on.0 told.0 (omega (arith, head.place, head.fits)) on.2 in
      let place = packs_place layout room list on.0 told.0 on.2 in
      let whole = packed_listed layout room list 1 on.0 told.0 on.2 in
      let c : Contents = record { bays = bays; entries = es } in
      let read : list_of kind layout.code text ≡ Ok c = ap (contents_from (list_listing kind text)) is ∙ ap (with_bays bays) whole in
      let valid = contents_valid kind layout.code text c laws.others read in
      record {
        bays = bays;
        entries = es;
        some = valid.0;
        few = valid.1;
        short = omega (arith, length-append (header_bits layout.code bays) (entries_bits layout es), ap length (bits_are layout list), head.place);
        valid = valid.2;
        text_is = contents_written_back kind layout.code text c laws.others (ap (option_map code_of) known.word ∙ ap Some known.code) read;
        bytes_are = ap bytes_of (sym (log_is layout bays list) ∙ told.2) ∙ bits.2;
      }

  log_behind : (bytes : List ℕ) (room : ℕ) (c : Contents) (x : Result Header Refusal) → 1 ≤ c.bays → c.bays ≤ 32 → AllByRecursion (λ e. e.bay < c.bays) c.entries → length (first_line kind c.bays ++ entry_lines kind c.entries) ≤ room → behind_header layout bytes x ≡ Ok c → translated_behind layout kind bytes room x ≡ Ok (first_line kind c.bays ++ entry_lines kind c.entries)
  log_behind bytes room c (Err r) some few among fits h = absurd cc
  log_behind bytes room c (Ok head) some few among fits h =
      let told = with_bays_is head.bays (entries_of 1 (log_listing layout bytes head.bays)) c h in
      let es = c.entries in
      let listing = listed_before es finished in
      let list : log_listing layout bytes head.bays ≡ listing = listed_entries (log_listing layout bytes head.bays) 1 es told.0 in
      let long = length-append (first_line kind c.bays) (entry_lines kind es) in
      let first = begin_fits kind layout.code room c.bays some few (omega arith) in
      let rest = writes_fit kind layout.code room es (record { code = layout.code; bays = c.bays; place = length (first_line kind c.bays); entries = 0 }) refl among (omega arith) in
      ap (λ l. meant (λ _. list_text kind head.bays l) (plans kind layout.code room head.bays l)) list
      ∙ ap (λ b. meant (λ _. list_text kind b listing) (plans kind layout.code room b listing)) told.1
      ∙ ap (λ x. meant (λ _. list_text kind c.bays listing) (next x (writes kind layout.code room listing))) first
      ∙ ap (meant (λ _. list_text kind c.bays listing)) rest.1
      ∙ ap Ok (text_is kind c.bays listing)
      ∙ ap (λ l. Ok (first_line kind c.bays ++ entry_lines kind l)) (listed_before_lem es)

  -- the log of a list, turned into a list again, is the list in its normal form
  pub list_comes_back : (text bytes : List ℕ) (room room' : ℕ) → meant bytes_of (packed_bits layout kind text room) ≡ Ok bytes → length (normal_form text) ≤ room' → translated layout kind bytes room' ≡ Ok (normal_form text)
  list_comes_back text bytes room room' h fits =
      let p = packed_behind_lem text bytes room (list_begun (has_code layout.code) text) refl h in
      let holds = valid_holdable layout kind laws p.bays p.entries p.valid in
      let read = log_reads layout p.bays p.entries p.short laws.tell (name, known.code) p.some p.few holds in
      let c : Contents = record { bays = p.bays; entries = p.entries } in
      let back = log_behind (log_bytes layout p.bays p.entries) room' c (header_of (one_kind layout.code) (log_bytes layout p.bays p.entries)) p.some p.few (holdable_among layout p.bays p.entries holds) (omega (arith, ap length p.text_is)) read in
      ap (λ b. translated layout kind b room') (sym p.bytes_are) ∙ back ∙ ap Ok (sym p.text_is)

  -- what a log was turned into tells the log's kind, and packs into the log
  pub packs_again : (bytes : List ℕ) (room : ℕ) → AllByRecursion (λ b. b < 256) bytes → (x : Result (List ℕ) Refusal) → translated layout kind bytes room ≡ x → PacksAgain name layout kind bytes x
  packs_again bytes room small (Err r) is = tt
  packs_again bytes room small (Ok text) is =
      let t = listed_behind bytes text room (header_of (one_kind layout.code) bytes) refl is in
      let r = log_again layout laws.tell bytes small (record { bays = t.bays; entries = t.entries }) t.reads in
      record {
        told = ap (λ l. kind_told (first_line_of (before 10 l))) (sym t.text_is) ∙ ap kind_told (first_line_reads_back kind name t.bays (entry_lines kind t.entries) known.word r.some r.few);
        back = λ room' fits. log_comes_back bytes text room room' small is fits;
      }

  -- what a list was packed into tells the list's kind, and turns into the list again
  pub lists_again : (text : List ℕ) (room : ℕ) (x : Result (List ℕ) Refusal) → meant bytes_of (packed_bits layout kind text room) ≡ x → ListsAgain name layout kind text x
  lists_again text room (Err r) is = tt
  lists_again text room (Ok bytes) is =
      let p = packed_behind_lem text bytes room (list_begun (has_code layout.code) text) refl is in
      record {
        bays = p.bays;
        told = ap (header_of any_kind) (sym p.bytes_are) ∙ log_tells layout p.bays p.entries p.short any_kind name known.code refl p.some p.few;
        back = λ room' fits. list_comes_back text bytes room room' is fits;
      }

-- with the kind that a list tells, that goes for every list
pub log_back : (name : KindName) (bytes : List ℕ) (x : Result (List ℕ) Refusal) → PacksAgain name (layout_of name) (wording_of name) bytes x → LogComesBack bytes x
log_back name bytes (Err r) h = tt
log_back name bytes (Ok text) h = λ room fits. ap (λ k. meant bytes_of (log_by_kind text room k)) h.told ∙ h.back room fits

-- with the kind that a log tells, that goes for every log
pub list_back : (name : KindName) (text : List ℕ) (x : Result (List ℕ) Refusal) → ListsAgain name (layout_of name) (wording_of name) text x → ListComesBack text x
list_back name text (Err r) h = tt
list_back name text (Ok bytes) h = λ room fits. ap (text_by_kind bytes room) h.told ∙ h.back room fits
