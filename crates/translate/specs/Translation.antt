-- From a packed log to a text list. Assumes nothing.
use Rattle.std.specs.Prelude.{◌≡◌, ℕ, ◌+◌, List, [], ◌++◌, Ok, Err, Result}
use Rattle.kinds.specs.Articles.{article_layout, article_wording}
use Rattle.kinds.specs.FieldSets.{field_set_layout, field_set_wording}
use Rattle.items.specs.Kinds.{Layout, Wording, meant}
use Rattle.items.specs.Lines.{pasted}
use Rattle.kinds.specs.Spans.{span_layout, span_wording}
use Rattle.items.specs.declared.kind_name.KindName.{KindName}
use Rattle.items.specs.declared.kind_name.KindName.TheVariants.{Article, Span, FieldSet}
use Rattle.items.specs.declared.refusal.Refusal.{Refusal}
use Rattle.packed.specs.declared.header.Header.{Header}
use Rattle.packed.specs.Headers.{any_kind, one_kind, header_of}
use Rattle.packed.specs.Logs.{Listing, finished, stopped, listed, log_listing}
use Rattle.packed.specs.declared.writing.Writing.{Writing}
use Rattle.text.specs.Lists.{first_line, entry_line}
use Rattle.text.specs.Writing.{begins, adds}

-- the lines of the entries that are listed
abbrev pub lines_of : Wording → Listing → List ℕ
lines_of kind finished = []
lines_of kind (stopped r l) = []
lines_of kind (listed e rest) = entry_line kind e ++ lines_of kind rest

-- a whole list: its first line and a line for each entry
abbrev pub list_text : Wording → ℕ → Listing → List ℕ
list_text kind bays entries = first_line kind bays ++ lines_of kind entries

-- what comes next, if nothing was refused
abbrev pub next : {S : Type 0} → Result S Refusal → (S → Result S Refusal) → Result S Refusal
next (Ok w) go = go w
next (Err r) go = Err r

-- writing entry after entry into so much room: the list then, or the first refusal of the log or of the list
abbrev pub writes : Wording → ℕ → ℕ → Listing → Writing → Result Writing Refusal
writes kind code room finished w = Ok w
writes kind code room (stopped r l) w = Err (record { reason = r; layer = l; entry = w.entries + 1 })
writes kind code room (listed e rest) w = next (adds kind code room w e) (writes kind code room rest)

-- writing a whole list
abbrev pub plans : Wording → ℕ → ℕ → ℕ → Listing → Result Writing Refusal
plans kind code room bays entries = next (begins kind code room bays) (writes kind code room entries)

-- the list behind a header, if that was not refused
abbrev pub translated_behind : Layout → Wording → List ℕ → ℕ → Result Header Refusal → Result (List ℕ) Refusal
translated_behind layout kind bytes room (Err r) = Err r
translated_behind layout kind bytes room (Ok h) =
    meant (λ _. list_text kind h.bays (log_listing layout bytes h.bays)) (plans kind layout.code room h.bays (log_listing layout bytes h.bays))

-- a log of one kind as a list, in so much room
abbrev pub translated : Layout → Wording → List ℕ → ℕ → Result (List ℕ) Refusal
translated layout kind bytes room = translated_behind layout kind bytes room (header_of (one_kind layout.code) bytes)

-- the packed form of each kind
abbrev pub layout_of : KindName → Layout
layout_of Article = article_layout
layout_of Span = span_layout
layout_of FieldSet = field_set_layout

-- the form of each kind in a list
abbrev pub wording_of : KindName → Wording
wording_of Article = article_wording
wording_of Span = span_wording
wording_of FieldSet = field_set_wording

-- a log as a list, by the kind that its header tells
abbrev pub text_by_kind : List ℕ → ℕ → Result Header Refusal → Result (List ℕ) Refusal
text_by_kind bytes room (Err r) = Err r
text_by_kind bytes room (Ok h) = translated (layout_of h.kind) (wording_of h.kind) bytes room

-- a log of any of the three kinds as a list, in so much room, or the first refusal
abbrev pub text_of : List ℕ → ℕ → Result (List ℕ) Refusal
text_of bytes room = text_by_kind bytes room (header_of any_kind bytes)

-- memory after a translation, and as it was where the translation was refused
abbrev pub translated_memory : List ℕ → Result (List ℕ) Refusal → List ℕ
translated_memory memory (Ok text) = pasted memory 0 text
translated_memory memory (Err r) = memory

-- memory after a call of a pass, by what the pass leaves where bytes go to a place; as it was where the call was refused
abbrev pub memory_left : {X : Type 0} → (List ℕ → ℕ → List ℕ → List ℕ) → Result X Refusal → List ℕ → ℕ → List ℕ → List ℕ
memory_left left (Ok x) memory at bytes = left memory at bytes
memory_left left (Err r) memory at bytes = memory

-- what a whole pass over a log leaves in memory: the whole list, or the front of it that came before the refusal
abbrev pub Passed : (List ℕ → ℕ → List ℕ → List ℕ) → List ℕ → Result (List ℕ) Refusal → List ℕ → Type 0
Passed left before (Ok text) after = after ≡ left before 0 text
Passed left before (Err r) after = (front : List ℕ) × (after ≡ left before 0 front)
