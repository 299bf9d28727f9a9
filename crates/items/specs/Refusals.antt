-- The numbers and words of refusals. Assumes nothing.
use Rattle.std.specs.Prelude.{ℕ, List, codes}
use Rattle.items.specs.declared.refusal.Reason.{Reason}
use Rattle.items.specs.declared.refusal.Reason.TheVariants.{BadSize, AfterCrossing, NoSuchBay, BayOpen, BayIdle, NoVacantMark, ItemOutOfRange, ShortHeader, UnknownForm, OtherKind, SpareBitSet, NoOperation, EntryCut, LogTooLong, MemoryTooShort, MalformedLine}
use Rattle.items.specs.declared.refusal.Layer.{Layer}
use Rattle.items.specs.declared.refusal.Layer.TheVariants.{Item, Board, Watch, Log, Text}

-- the number by which each reason is printed
abbrev pub number_of : Reason → ℕ
number_of BadSize = 1
number_of AfterCrossing = 2
number_of NoSuchBay = 3
number_of BayOpen = 4
number_of BayIdle = 5
number_of NoVacantMark = 6
number_of ItemOutOfRange = 7
number_of ShortHeader = 8
number_of UnknownForm = 9
number_of OtherKind = 10
number_of SpareBitSet = 11
number_of NoOperation = 12
number_of EntryCut = 13
number_of LogTooLong = 14
number_of MemoryTooShort = 15
number_of MalformedLine = 16

-- the word by which each layer is printed
abbrev pub word_of : Layer → List ℕ
word_of Item = codes "item"
word_of Board = codes "board"
word_of Watch = codes "watch"
word_of Log = codes "log"
word_of Text = codes "text"

-- what a refusal's line begins with
abbrev pub refused : List ℕ
refused = codes "REFUSED "
