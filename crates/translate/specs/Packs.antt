-- From a text list to a packed log. Assumes nothing.
use Rattle.std.specs.Prelude.{◌≡◌, ℕ, ◌+◌, Bool, List, [], ◌++◌, Ok, Err, Result}
use Rattle.items.specs.Kinds.{Layout, Wording, meant}
use Rattle.items.specs.Lines.{pasted}
use Rattle.items.specs.declared.refusal.Refusal.{Refusal}
use Rattle.items.specs.declared.kind_name.KindName.{KindName}
use Rattle.packed.specs.declared.writing.Writing.{Writing}
use Rattle.packed.specs.declared.reading.Reading.{Reading}
use Rattle.packed.specs.Bits.{bits_of, bytes_of}
use Rattle.packed.specs.Logs.{Listing, finished, stopped, listed}
use Rattle.packed.specs.Packing.{header_bits, entry_bits, padded, header_packs, entry_packs}
use Rattle.text.specs.Reads.{first_line_of, kind_told, has_code, list_begun}
use Rattle.translate.specs.Translation.{next, layout_of, wording_of}
use Rattle.text.specs.Whole.{list_listing}
use Rattle.text.specs.Words.{before}

-- the bits of the entries that are listed
abbrev pub entries_bits : Layout → Listing → List Bool
entries_bits kind finished = []
entries_bits kind (stopped r l) = []
entries_bits kind (listed e rest) = entry_bits kind e ++ entries_bits kind rest

-- the bits of a whole log: its header, its entries, and zeros up to the end of a byte
abbrev pub log_bits : Layout → ℕ → Listing → List Bool
log_bits kind bays entries = padded 0 (header_bits kind.code bays ++ entries_bits kind entries)

-- packing entry after entry into so much room: the log then, or the first refusal of the list or of the log
abbrev pub packs : Layout → ℕ → Listing → Writing → Result Writing Refusal
packs kind room finished p = Ok p
packs kind room (stopped r l) p = Err (record { reason = r; layer = l; entry = p.entries + 1 })
packs kind room (listed e rest) p = next (entry_packs kind room p e) (packs kind room rest)

-- the log of what stands behind a first line, if that was not refused
abbrev pub packed_behind : Layout → Wording → List ℕ → ℕ → Result Reading Refusal → Result (List Bool) Refusal
packed_behind layout kind text room (Err r) = Err r
packed_behind layout kind text room (Ok r) =
    meant (λ _. log_bits layout r.bays (list_listing kind text r)) (next (header_packs layout.code room r.bays) (packs layout room (list_listing kind text r)))

-- a list of one kind as the bits of a log, in so much room
abbrev pub packed_bits : Layout → Wording → List ℕ → ℕ → Result (List Bool) Refusal
packed_bits layout kind text room = packed_behind layout kind text room (list_begun (has_code layout.code) text)

-- a list as a log, by the kind that its first line tells
abbrev pub log_by_kind : List ℕ → ℕ → Result KindName Refusal → Result (List Bool) Refusal
log_by_kind text room (Err r) = Err r
log_by_kind text room (Ok kind) = packed_bits (layout_of kind) (wording_of kind) text room

-- a list of any of the three kinds as the bytes of a log, in so much room, or the first refusal
abbrev pub log_of_text : List ℕ → ℕ → Result (List ℕ) Refusal
log_of_text text room = meant bytes_of (log_by_kind text room (kind_told (first_line_of (before 10 text))))

-- the bits of memory after one pass packed a log into it; a pass that was refused may have written there, so it is tried
-- first on memory that nobody keeps
abbrev pub PackedInto : List ℕ → Result (List Bool) Refusal → List ℕ → Type 0
PackedInto memory (Ok bits) after = bits_of after ≡ pasted (bits_of memory) 0 bits
PackedInto memory (Err r) after = Unit {0}
