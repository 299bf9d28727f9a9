use Rattle.std.proofs.Common.{◌≡◌, ◌-◌, length}
use Rattle.items.specs.Lines.{pasted}
use Rattle.packed.specs.Bits.{bits_of}
use Rattle.packed.specs.Packing.{padded}
use Rattle.packed.specs.Readers.{listing_from}
use Rattle.text.specs.Whole.{list_listing}
use Rattle.translate.specs.Packs.{entries_bits as listing_bits}
use Rattle.text.specs.Reads.{line_at}
use Rattle.translate.proofs.Packings.{Packs, ZeroBehind}
use Rattle.translate.proofs.to_log.pack.Given as goal

abbrev pub invariant-loop-entry : goal.invariant-loop-entry
invariant-loop-entry g l =
    Packs g.K.PackedKind.layout g.K.TextKind.wording l.text (length l.initial.out) l.initial.reader.at l.initial.log.log l.reader.at l.log.log
    × ZeroBehind (bits_of l.out) l.log.log.place
    × (pasted (bits_of l.out) l.log.log.place (padded l.log.log.place (listing_bits g.K.PackedKind.layout (listing_from (line_at g.K.TextKind.wording) l.text l.reader.at)))
    ≡ pasted (bits_of l.initial.out) l.initial.log.log.place (padded l.initial.log.log.place (listing_bits g.K.PackedKind.layout (list_listing g.K.TextKind.wording l.text l.initial.reader.at))))

abbrev pub decreases-loop-entry : goal.decreases-loop-entry
decreases-loop-entry g l = length l.text - l.reader.at.place
