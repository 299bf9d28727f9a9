-- What a listing is written as, by the entries that it lists. Assumes nothing.
use Rattle.std.proofs.Common.{◌≡◌, ℕ, ◌++◌, refl, ap}
use Rattle.items.specs.Kinds.{Layout, Wording}
use Rattle.packed.specs.Logs.{Listing, finished, stopped, listed, entries_listed}
use Rattle.packed.specs.Packing.{entry_bits, header_bits, padded}
use Rattle.packed.specs.Trips.{entries_bits, unpadded_bits}
use Rattle.text.specs.Lists.{first_line, entry_line, entry_lines}
use Rattle.translate.specs.Packs.{entries_bits as listing_bits, log_bits}
use Rattle.translate.specs.Translation.{lines_of, list_text}

-- the lines of a listing are those of its entries
pub lines_are : (kind : Wording) (l : Listing) → lines_of kind l ≡ entry_lines kind (entries_listed l)
lines_are kind finished = refl
lines_are kind (stopped r x) = refl
lines_are kind (listed e rest) = ap (λ t. entry_line kind e ++ t) (lines_are kind rest)

-- the bits of a listing are those of its entries
pub bits_are : (kind : Layout) (l : Listing) → listing_bits kind l ≡ entries_bits kind (entries_listed l)
bits_are kind finished = refl
bits_are kind (stopped r x) = refl
bits_are kind (listed e rest) = ap (λ t. entry_bits kind e ++ t) (bits_are kind rest)

pub text_is : (kind : Wording) (bays : ℕ) (l : Listing) → list_text kind bays l ≡ first_line kind bays ++ entry_lines kind (entries_listed l)
text_is kind bays l = ap (λ t. first_line kind bays ++ t) (lines_are kind l)

pub log_is : (kind : Layout) (bays : ℕ) (l : Listing) → log_bits kind bays l ≡ padded 0 (unpadded_bits kind bays (entries_listed l))
log_is kind bays l = ap (λ t. padded 0 (header_bits kind.code bays ++ t)) (bits_are kind l)
