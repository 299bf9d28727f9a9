use Rattle.std.proofs.Common.{◌-◌, length}
use Rattle.packed.specs.Logs.{log_listing}
use Rattle.packed.specs.Readers.{listing_at}
use Rattle.translate.specs.Translation.{lines_of, list_text}
use Rattle.translate.proofs.Memory.{Written}
use Rattle.translate.proofs.Passes.{Passing}
use Rattle.translate.proofs.to_text.pass_over.Given as goal

abbrev pub invariant-loop-entry : goal.invariant-loop-entry
invariant-loop-entry g l =
    Passing g.K.PackedKind.layout g.K.TextKind.wording l.bytes (length l.initial.out) l.initial.reader.at l.initial.list.list l.reader.at l.list.list
    × Written g.P.Pass.left l.fn.out (list_text g.K.TextKind.wording l.initial.reader.at.bays (log_listing g.K.PackedKind.layout l.bytes l.initial.reader.at.bays)) l.out l.list.list.place (lines_of g.K.TextKind.wording (listing_at g.K.PackedKind.layout l.bytes l.reader.at))

abbrev pub decreases-loop-entry : goal.decreases-loop-entry
decreases-loop-entry g l = 524288 - l.reader.at.place
