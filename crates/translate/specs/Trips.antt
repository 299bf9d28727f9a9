-- Nothing is lost on the way from a log to a list and back, nor on the way from a list to a log and back. Assumes nothing.
use Rattle.std.specs.Prelude.{◌≡◌, ℕ, ◌≤◌, List, length, Some, Ok, Err, Result}
use Rattle.items.specs.KindNames.{code_of}
use Rattle.items.specs.Kinds.{Layout, Wording, meant}
use Rattle.items.specs.declared.kind_name.KindName.{KindName}
use Rattle.items.specs.declared.refusal.Refusal.{Refusal}
use Rattle.packed.specs.Bits.{bytes_of}
use Rattle.packed.specs.Headers.{any_kind, header_of}
use Rattle.text.specs.Lists.{normal_form}
use Rattle.text.specs.Reads.{word_kind, first_line_of, kind_told}
use Rattle.text.specs.Words.{before}
use Rattle.translate.specs.Packs.{packed_bits, log_of_text}
use Rattle.translate.specs.Translation.{translated, text_of}

-- a kind that logs and lists can be of: its code is that of the kind of this name, and its word tells that kind
pub record Known (name : KindName) (layout : Layout) (kind : Wording) : Type 0 where
  pub code : code_of name ≡ layout.code
  pub word : word_kind kind.word ≡ Some name

-- the list of a log of one kind tells the kind and, packed again into any memory that has room for the log, is the log
pub record PackedAgain (name : KindName) (layout : Layout) (kind : Wording) (bytes text : List ℕ) : Type 0 where
  pub told : kind_told (first_line_of (before 10 text)) ≡ Ok name
  pub back : (room : ℕ) → length bytes ≤ room → meant bytes_of (packed_bits layout kind text room) ≡ Ok bytes

abbrev pub PacksAgain : KindName → Layout → Wording → List ℕ → Result (List ℕ) Refusal → Type 0
PacksAgain name layout kind bytes (Ok text) = PackedAgain name layout kind bytes text
PacksAgain name layout kind bytes (Err r) = Unit {0}

-- the log of a list of one kind tells the kind and, turned into a list again in any memory that has room for it, is the
-- list in its normal form
pub record ListedAgain (name : KindName) (layout : Layout) (kind : Wording) (text bytes : List ℕ) : Type 0 where
  pub bays : ℕ
  pub told : header_of any_kind bytes ≡ Ok (record { kind = name; bays = bays })
  pub back : (room : ℕ) → length (normal_form text) ≤ room → translated layout kind bytes room ≡ Ok (normal_form text)

abbrev pub ListsAgain : KindName → Layout → Wording → List ℕ → Result (List ℕ) Refusal → Type 0
ListsAgain name layout kind text (Ok bytes) = ListedAgain name layout kind text bytes
ListsAgain name layout kind text (Err r) = Unit {0}

-- the list of a log, packed again into any memory that has room for the log, is the log
abbrev pub LogComesBack : List ℕ → Result (List ℕ) Refusal → Type 0
LogComesBack bytes (Ok text) = (room : ℕ) → length bytes ≤ room → log_of_text text room ≡ Ok bytes
LogComesBack bytes (Err r) = Unit {0}

-- the log of a list, turned into a list again in any memory that has room for it, is the list in its normal form
abbrev pub ListComesBack : List ℕ → Result (List ℕ) Refusal → Type 0
ListComesBack text (Ok bytes) = (room : ℕ) → length (normal_form text) ≤ room → text_of bytes room ≡ Ok (normal_form text)
ListComesBack text (Err r) = Unit {0}
