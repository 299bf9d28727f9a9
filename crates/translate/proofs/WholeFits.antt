-- Entries that have room are packed, and written, whole; and what was packed or written whole was listed to its end. Assumes nothing.
use Rattle.std.proofs.Common.{◌≡◌, ℕ, ◌+◌, ◌<◌, ◌≤◌, List, [], ◌∷◌, length, Some, Ok, Err, Result, sym, refl, ap, ◌∙◌, arith}
use Rattle.std.specs.List.{AllByRecursion}
use Rattle.std.proofs.lemmas.List.{length-append}
use Rattle.std.proofs.lemmas.Bool.{cond-true, lt-ltb, eq-eqb, le-leb, and_from}
use Rattle.items.specs.Kinds.{Layout, Wording}
use Rattle.items.specs.Lines.{fitted}
use Rattle.items.specs.declared.entry.Entry.{Entry}
use Rattle.items.specs.declared.refusal.Refusal.{Refusal}
use Rattle.packed.specs.declared.writing.Writing.{Writing}
use Rattle.packed.specs.Logs.{Listing, finished, stopped, listed, entries_listed, also_listed, entries_of}
use Rattle.packed.specs.Packing.{entry_bits, bit_room, header_packs, entry_packs}
use Rattle.packed.specs.Trips.{entries_bits}
use Rattle.packed.specs.declared.writing.Writing.{Writing}
use Rattle.text.specs.Lists.{first_line, entry_line, entry_lines}
use Rattle.text.specs.Writing.{headed, begins, grown, adds}
use Rattle.text.proofs.LineWalks.{listed_before}
use Rattle.translate.specs.Packs.{packs}
use Rattle.translate.specs.Translation.{next, writes}

-- entry after entry, if none is refused: either way of writing goes to the end of the listing only if it ends
module _ {S : Type 0} (add : S → Entry (List ℕ) → Result S Refusal) (goes : Listing → S → Result S Refusal) (stop : (r : _) (l : _) (s t : S) → goes (stopped r l) s ≡ Ok t → ⊥) (step : (e : Entry (List ℕ)) (rest : Listing) (s : S) → goes (listed e rest) s ≡ next (add s e) (goes rest)) where
  next_ok : (x : Result S Refusal) (go : S → Result S Refusal) (t : S) → next x go ≡ Ok t → (s : S) × (go s ≡ Ok t)
  next_ok (Ok s) go t h = (s, h)
  next_ok (Err r) go t h = absurd cc

  -- what was written whole was listed to its end
  pub listed_whole : (l : Listing) (n : ℕ) (s t : S) → goes l s ≡ Ok t → entries_of n l ≡ Ok (entries_listed l)
  listed_whole finished n s t h = refl
  listed_whole (stopped r x) n s t h = absurd (stop r x s t h)
  listed_whole (listed e rest) n s t h =
      let on = next_ok (add s e) (goes rest) t (sym (step e rest s) ∙ h) in
      ap (also_listed e) (listed_whole rest (n + 1) on.0 t on.1)

pub packed_listed : (kind : Layout) (room : ℕ) (l : Listing) (n : ℕ) (p q : Writing) → packs kind room l p ≡ Ok q → entries_of n l ≡ Ok (entries_listed l)
packed_listed kind room = listed_whole (entry_packs kind room) (packs kind room) (λ r l s t h. absurd cc) (λ e rest s. refl)

pub written_listed : (kind : Wording) (code room : ℕ) (l : Listing) (n : ℕ) (w v : Writing) → writes kind code room l w ≡ Ok v → entries_of n l ≡ Ok (entries_listed l)
written_listed kind code room = listed_whole (adds kind code room) (writes kind code room) (λ r l s t h. absurd cc) (λ e rest s. refl)

-- the entries of a listing that just lists them
pub listed_before_lem : (es : List (Entry (List ℕ))) → entries_listed (listed_before es finished) ≡ es
listed_before_lem [] = refl
listed_before_lem (e ∷ es) = ap (λ l. e ∷ l) (listed_before_lem es)

-- entries that have room are packed whole
pub packs_fit : (kind : Layout) (room : ℕ) (es : List (Entry (List ℕ))) (p : Writing) → kind.code ≡ p.code → AllByRecursion (λ e. e.bay < p.bays) es → p.place + length (entries_bits kind es) ≤ bit_room room → (q : Writing) × (packs kind room (listed_before es finished) p ≡ Ok q)
packs_fit kind room [] p code among fits = (p, refl)
packs_fit kind room (e ∷ es) p code among fits =
    let long : length (entries_bits kind (e ∷ es)) ≡ length (entry_bits kind e) + length (entries_bits kind es) = length-append (entry_bits kind e) (entries_bits kind es) in
    let one : entry_packs kind room p e ≡ Ok (record { code = p.code; bays = p.bays; place = p.place + length (entry_bits kind e); entries = p.entries + 1 }) =
    cond-true _ _ _ (lt-ltb e.bay p.bays among.0)
    ∙ cond-true _ _ _ (eq-eqb kind.code p.code code)
    ∙ cond-true _ _ _ (le-leb (p.place + length (entry_bits kind e)) (bit_room room) (omega arith)) in
    let rest = packs_fit kind room es (record { code = p.code; bays = p.bays; place = p.place + length (entry_bits kind e); entries = p.entries + 1 }) code among.1 (omega arith) in
    (rest.0, ap (λ x. next x (packs kind room (listed_before es finished))) one ∙ rest.1)

-- a header that has room is packed
pub header_fits : (code room bays : ℕ) → 1 ≤ bays → bays ≤ 32 → 16 ≤ bit_room room → header_packs code room bays ≡ Ok (record { code = code; bays = bays; place = 16; entries = 0 })
header_fits code room bays some few fits =
    cond-true _ _ _ (and_from _ _ (le-leb 1 bays some) (le-leb bays 32 few)) ∙ cond-true _ _ _ (le-leb 16 (bit_room room) fits)

-- lines that have room are written whole
pub writes_fit : (kind : Wording) (code room : ℕ) (es : List (Entry (List ℕ))) (w : Writing) → code ≡ w.code → AllByRecursion (λ e. e.bay < w.bays) es → w.place + length (entry_lines kind es) ≤ room → (v : Writing) × (writes kind code room (listed_before es finished) w ≡ Ok v)
writes_fit kind code room [] w same among fits = (w, refl)
writes_fit kind code room (e ∷ es) w same among fits =
    let n = length (entry_line kind e) in
    let long : length (entry_lines kind (e ∷ es)) ≡ n + length (entry_lines kind es) = length-append (entry_line kind e) (entry_lines kind es) in
    let fit : fitted room w.place n ≡ Some (w.place + n) = cond-true _ _ _ (le-leb (w.place + n) room (omega arith)) in
    let one : adds kind code room w e ≡ Ok (record { code = w.code; bays = w.bays; place = w.place + n; entries = w.entries + 1 }) =
    cond-true _ _ _ (lt-ltb e.bay w.bays among.0) ∙ cond-true _ _ _ (eq-eqb code w.code same) ∙ ap (grown w) fit in
    let rest = writes_fit kind code room es (record { code = w.code; bays = w.bays; place = w.place + n; entries = w.entries + 1 }) same among.1 (omega arith) in
    (rest.0, ap (λ x. next x (writes kind code room (listed_before es finished))) one ∙ rest.1)

-- a first line that has room is written
pub begin_fits : (kind : Wording) (code room bays : ℕ) → 1 ≤ bays → bays ≤ 32 → length (first_line kind bays) ≤ room → begins kind code room bays ≡ Ok (record { code = code; bays = bays; place = length (first_line kind bays); entries = 0 })
begin_fits kind code room bays some few fits =
    let n = length (first_line kind bays) in
    let fit : fitted room 0 n ≡ Some n = cond-true _ _ _ (le-leb (0 + n) room (omega arith)) ∙ ap Some (omega arith) in
    cond-true _ _ _ (and_from _ _ (le-leb 1 bays some) (le-leb bays 32 few)) ∙ ap (headed code bays) fit
