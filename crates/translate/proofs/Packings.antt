-- A pass over a list that packs its log: what each step keeps, and what the end says. Assumes nothing.
use Rattle.std.proofs.Common.{◌≡◌, ℕ, ◌+◌, ◌-◌, ◌*◌, ◌/◌, ◌%◌, ◌<◌, ◌≤◌, Bool, List, ◌++◌, length, Ok, Err, Result, sym, refl, ap, ◌∙◌, append_assoc, add-zero, arith, length-append}
use Rattle.std.specs.List.{AllByRecursion}
use Rattle.items.specs.Kinds.{Layout, Wording, meant}
use Rattle.items.specs.Lines.{pasted}
use Rattle.items.specs.declared.entry.Entry.{Entry}
use Rattle.items.specs.declared.refusal.Refusal.{Refusal}
use Rattle.items.proofs.Pasting.{pasted_pieces, pasted_again}
use Rattle.packed.specs.declared.writing.Writing.{Writing}
use Rattle.packed.specs.declared.reading.Reading.{Reading}
use Rattle.packed.specs.Logs.{Listing, finished, stopped, listed}
use Rattle.packed.specs.Packing.{header_bits, entry_bits, padding_bits, padded, header_packs, entry_packs, bit_room}
use Rattle.packed.specs.Bits.{bytes_of}
use Rattle.packed.proofs.BitLists.{length_number_bits}
use Rattle.packed.proofs.NumberBits.{bytes_count, bytes_over}
use Rattle.packed.proofs.WriteTrips.{entry_packed, header_packed}
use Rattle.packed.proofs.Walks.{MovedBy}
use Rattle.packed.specs.Readers.{listing_from}
use Rattle.text.specs.Whole.{list_listing}
use Rattle.translate.specs.Packs.{entries_bits as listing_bits, log_bits, packs, packed_behind, packed_bits, PackedInto}
use Rattle.text.specs.Reads.{line_at, has_code, list_begun}
use Rattle.translate.specs.Translation.{next, translated_memory}

packed_on : (kind : Layout) (room : ℕ) (e : Entry (List ℕ)) (rest : Listing) (p p' : Writing) → ((q : Writing) → packs kind room rest q ≡ Ok p' → p'.place ≡ q.place + length (listing_bits kind rest)) → (x : Result Writing Refusal) → entry_packs kind room p e ≡ x → next x (packs kind room rest) ≡ Ok p' → p'.place ≡ p.place + length (listing_bits kind (listed e rest))
packed_on kind room e rest p p' before (Err r) is h = absurd cc
packed_on kind room e rest p p' before (Ok q) is h =
    omega (arith, before q h, (entry_packed kind room p e q is).place, length-append (entry_bits kind e) (listing_bits kind rest))

-- a log that was packed whole has the bits of each entry
pub packs_place : (kind : Layout) (room : ℕ) (l : Listing) (p p' : Writing) → packs kind room l p ≡ Ok p' → p'.place ≡ p.place + length (listing_bits kind l)
packs_place kind room finished p p' h = let same : p ≡ p' = cc in sym (ap (λ x. x.place) same) ∙ sym (add-zero p.place)
packs_place kind room (stopped r l) p p' h = absurd cc
packs_place kind room (listed e rest) p p' h = packed_on kind room e rest p p' (λ q. packs_place kind room rest q p') (entry_packs kind room p e) refl h

packed_within : (kind : Layout) (room : ℕ) (e : Entry (List ℕ)) (rest : Listing) (p p' : Writing) → ((q : Writing) → q.place ≤ bit_room room → packs kind room rest q ≡ Ok p' → p'.place ≤ bit_room room) → (x : Result Writing Refusal) → entry_packs kind room p e ≡ x → next x (packs kind room rest) ≡ Ok p' → p'.place ≤ bit_room room
packed_within kind room e rest p p' before (Err r) is h = absurd cc
packed_within kind room e rest p p' before (Ok q) is h =
    let told = entry_packed kind room p e q is in
    before q (omega (arith, told.place, told.fits)) h

-- a log that was packed whole has the room that it needs
pub packs_within : (kind : Layout) (room : ℕ) (l : Listing) (p p' : Writing) → p.place ≤ bit_room room → packs kind room l p ≡ Ok p' → p'.place ≤ bit_room room
packs_within kind room finished p p' here h = let same : p ≡ p' = cc in omega (arith, ap (λ x. x.place) same)
packs_within kind room (stopped r l) p p' here h = absurd cc
packs_within kind room (listed e rest) p p' here h = packed_within kind room e rest p p' (λ q. packs_within kind room rest q p') (entry_packs kind room p e) refl h

-- a log is packed alike into memory of which it may use as much
packs_room : (kind : Layout) (m n : ℕ) → bit_room m ≡ bit_room n → (l : Listing) (p : Writing) → packs kind m l p ≡ packs kind n l p
packs_room kind m n same finished p = refl
packs_room kind m n same (stopped r l) p = refl
packs_room kind m n same (listed e rest) p =
    ap (λ x. next x (packs kind m rest)) (rw same refl)
    ∙ ap (next (entry_packs kind n p e)) (λ i q. packs_room kind m n same rest q i)

pad_length : (n : ℕ) → length (padding_bits n) ≡ (8 - n % 8) % 8
pad_length n = length_number_bits ((8 - n % 8) % 8) 0

-- padding reaches no further than the padding behind more bits
pad_within : (n : ℕ) (bs : List Bool) → length (padding_bits n) ≤ length (padded n bs)
pad_within n bs = omega (arith, pad_length n, pad_length (n + length bs), length-append bs (padding_bits (n + length bs)))

-- memory in which the rest of a byte behind the log is zero
abbrev pub ZeroBehind : List Bool → ℕ → Type 0
ZeroBehind memory place = pasted memory place (padding_bits place) ≡ memory

-- one entry written and padded, and then the others: as if all were written at once
pub packed_pieces : (d : List Bool) (p : ℕ) (e rest : List Bool) → pasted (pasted d p (padded p e)) (p + length e) (padded (p + length e) rest) ≡ pasted d p (padded p (e ++ rest))
packed_pieces d p e rest =
    let q = p + length e in
    let same : p + length (e ++ rest) ≡ q + length rest = omega (arith, length-append e rest) in
    ap (λ m. pasted m q (padded q rest)) (pasted_pieces d p e (padding_bits q))
    ∙ pasted_again (pasted d p e) q (padding_bits q) (padded q rest) (pad_within q rest)
    ∙ sym (pasted_pieces d p e (padded q rest))
    ∙ ap (pasted d p) (sym (append_assoc e rest (padding_bits (q + length rest))) ∙ ap (λ n. (e ++ rest) ++ padding_bits n) (sym same))

pub packed_zero : (d : List Bool) (p : ℕ) (e : List Bool) → ZeroBehind (pasted d p (padded p e)) (p + length e)
packed_zero d p e =
    let q = p + length e in
    ap (λ m. pasted m q (padding_bits q)) (pasted_pieces d p e (padding_bits q))
    ∙ pasted_again (pasted d p e) q (padding_bits q) (padding_bits q) (omega arith)
    ∙ sym (pasted_pieces d p e (padding_bits q))

-- how many bytes a log has
pub byte_count : (n : ℕ) (bs : List Bool) → n ≡ length bs → (n + 7) / 8 ≡ length (padded 0 bs) / 8
byte_count n bs e =
    let long : length (padded 0 bs) ≡ n + (8 - n % 8) % 8 = omega (arith, length-append bs (padding_bits (0 + length bs)), pad_length (0 + length bs)) in
    omega arith

-- bits that make whole bytes, which have room
abbrev WholeBytes : ℕ → List Bool → Type 0
WholeBytes room bits = (length bits ≡ 8 * (length bits / 8)) × (length bits / 8 ≤ room)

-- if a log was packed, it has whole bytes, which have room
abbrev pub Fits : ℕ → Result (List Bool) Refusal → Type 0
Fits room x = (bits : List Bool) → x ≡ Ok bits → WholeBytes room bits

module _ (layout : Layout) (kind : Wording) (text : List ℕ) (room : ℕ) where
  -- what a pass keeps: it began at a reading and a packing, and goes on from others to the same outcome
  pub record Packs (r₀ : Reading) (p₀ : Writing) (r : Reading) (p : Writing) : Type 0 where
    pub level : r.taken ≡ p.entries
    pub goes : packs layout room (list_listing kind text r₀) p₀ ≡ packs layout room (listing_from (line_at kind) text r) p

  pub packs_begin : (r : Reading) (p : Writing) → r.taken ≡ 0 → header_packs layout.code room r.bays ≡ Ok p → Packs r p r p
  packs_begin r p none head =
      record {
        level = none ∙ sym (header_packed layout.code room r.bays p head).entries;
        goes = refl;
      }

  module _ {r₀ : Reading} {p₀ : Writing} {r : Reading} {p : Writing} (s : Packs r₀ p₀ r p) where
    -- one line more was read: how packing goes on
    packs-read : (r' : Reading) (e : Entry (List ℕ)) → MovedBy 1 (line_at kind) text r r' e → packs layout room (list_listing kind text r₀) p₀ ≡ next (entry_packs layout room p e) (packs layout room (listing_from (line_at kind) text r'))
    packs-read r' e m = s.goes ∙ ap (λ l. packs layout room l p) m.lists

    pub packs_on : (r' : Reading) (e : Entry (List ℕ)) (p' : Writing) → MovedBy 1 (line_at kind) text r r' e → entry_packs layout room p e ≡ Ok p' → Packs r₀ p₀ r' p'
    packs_on r' e p' m is =
        record {
          level = m.count ∙ ap (λ n. n + 1) s.level ∙ sym (entry_packed layout room p e p' is).entries;
          goes = packs-read r' e m ∙ ap (λ x. next x (packs layout room (listing_from (line_at kind) text r'))) is;
        }

    pub packs_refused : (r' : Reading) (e : Entry (List ℕ)) (x : Refusal) → MovedBy 1 (line_at kind) text r r' e → entry_packs layout room p e ≡ Err x → packs layout room (list_listing kind text r₀) p₀ ≡ Err x
    packs_refused r' e x m is = packs-read r' e m ∙ ap (λ y. next y (packs layout room (listing_from (line_at kind) text r'))) is

    pub packs_stopped : (x : Refusal) → listing_from (line_at kind) text r ≡ stopped x.reason x.layer → x.entry ≡ r.taken + 1 → packs layout room (list_listing kind text r₀) p₀ ≡ Err x
    packs_stopped x is n =
        s.goes ∙ ap (λ l. packs layout room l p) is
        ∙ sym (ap (λ k. Err (record { reason = x.reason; layer = x.layer; entry = k })) (n ∙ ap (λ k. k + 1) s.level))

    pub packs_end : listing_from (line_at kind) text r ≡ finished → packs layout room (list_listing kind text r₀) p₀ ≡ Ok p
    packs_end is = s.goes ∙ ap (λ l. packs layout room l p) is

  -- the whole packing, by how a pass that was begun goes on
  pub packed_as : (r : Reading) (x : Result Writing Refusal) → list_begun (has_code layout.code) text ≡ Ok r → next (header_packs layout.code room r.bays) (packs layout room (list_listing kind text r)) ≡ x → packed_bits layout kind text room ≡ meant (λ _. log_bits layout r.bays (list_listing kind text r)) x
  packed_as r x open' is = ap (packed_behind layout kind text room) open' ∙ ap (meant (λ _. log_bits layout r.bays (list_listing kind text r))) is

  behind_fits : (bits : List Bool) (r : Reading) (x y : Result Writing Refusal) → header_packs layout.code room r.bays ≡ x → next x (packs layout room (list_listing kind text r)) ≡ y → meant (λ _. log_bits layout r.bays (list_listing kind text r)) y ≡ Ok bits → WholeBytes room bits
  behind_fits bits r x (Err e) head is h = absurd cc
  behind_fits bits r (Err e) (Ok p') head is h = absurd cc
  behind_fits bits r (Ok p₀) (Ok p') head is h =
      let list = list_listing kind text r in
      let all = header_bits layout.code r.bays ++ listing_bits layout list in
      let begun = header_packed layout.code room r.bays p₀ head in
      let within = packs_within layout room list p₀ p' (omega (arith, begun.place, begun.fits)) is in
      let place = packs_place layout room list p₀ p' is in
      let long = length-append (header_bits layout.code r.bays) (listing_bits layout list) in
      let same : padded 0 all ≡ bits = cc in
      let count : length bits ≡ length all + (8 - length all % 8) % 8 = omega (arith, ap length same, length-append all (padding_bits (0 + length all)), pad_length (0 + length all)) in
      (omega arith, omega (arith, begun.place))

  packed_behind_fits : (bits : List Bool) (x : Result Reading Refusal) → packed_behind layout kind text room x ≡ Ok bits → WholeBytes room bits
  packed_behind_fits bits (Err e) h = absurd cc
  packed_behind_fits bits (Ok r) h = behind_fits bits r (header_packs layout.code room r.bays) _ refl refl h

  -- a log that was packed has whole bytes, and they have room
  pub packed_fits : Fits room (packed_bits layout kind text room)
  packed_fits bits h = packed_behind_fits bits (list_begun (has_code layout.code) text) h

behind_room : (layout : Layout) (kind : Wording) (text : List ℕ) (m n : ℕ) → bit_room m ≡ bit_room n → (x : Result Reading Refusal) → packed_behind layout kind text m x ≡ packed_behind layout kind text n x
behind_room layout kind text m n same (Err e) = refl
behind_room layout kind text m n same (Ok r) =
    ap (meant (λ _. log_bits layout r.bays (list_listing kind text r)))
    (ap (λ x. next x (packs layout m (list_listing kind text r))) (rw same refl)
    ∙ ap (next (header_packs layout.code n r.bays)) (λ i q. packs_room layout m n same (list_listing kind text r) q i))

-- a list is packed alike into memory of which its log may use as much
pub packed_room : (layout : Layout) (kind : Wording) (text : List ℕ) (m n : ℕ) → bit_room m ≡ bit_room n → packed_bits layout kind text m ≡ packed_bits layout kind text n
packed_room layout kind text m n same = behind_room layout kind text m n same (list_begun (has_code layout.code) text)

-- how many bytes were packed
pub packed_count : (room : ℕ) (x : Result (List Bool) Refusal) → Fits room x → meant (λ bits. length bits / 8) x ≡ meant length (meant bytes_of x)
packed_count room (Ok bits) fits = ap Ok (sym (bytes_count bits (length bits / 8) (fits bits refl).0))
packed_count room (Err e) fits = refl

-- memory that a log was packed into has its bytes
pub packed_bytes : (before after : List ℕ) (x : Result (List Bool) Refusal) (n : ℕ) → Fits (length before) x → AllByRecursion (λ b. b < 256) before → AllByRecursion (λ b. b < 256) after → meant (λ bits. length bits / 8) x ≡ Ok n → PackedInto before x after → after ≡ translated_memory before (meant bytes_of x)
packed_bytes before after (Ok bits) n fits was small some into = bytes_over before after bits (length bits / 8) was small (fits bits refl).0 (fits bits refl).1 into
packed_bytes before after (Err e) n fits was small some into = absurd cc
