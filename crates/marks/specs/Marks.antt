-- What a mark means, and what becomes of one mark. Assumes nothing.
use Rattle.std.specs.Prelude.{ℕ, Bool, cond, not, ◌&&◌, ◌||◌, List, map, ◌==◌}
use Rattle.items.specs.Kinds.{same_fields}
use Rattle.items.specs.Modes.{row_of}
use Rattle.items.specs.declared.mode.Mode.{Mode}
use Rattle.boards.specs.BaySets.{bit}
use Rattle.marks.specs.declared.mark.Mark.{Mark}
use Rattle.marks.specs.Holders.{plus_bay, minus_bay, plus_all}

-- a mark by its meaning: the fields of its item, its mode, the bays that hold it as own and those that hold it as
-- inherited
pub record MarkMeant : Type 0 where
  pub fields : List ℕ
  pub mode : Mode
  pub own : ℕ
  pub inherited : ℕ

-- what a mark means, where an item means its fields
abbrev pub meant_mark : {I : Type 0} → (I → List ℕ) → Mark I → MarkMeant
meant_mark f m = record { fields = f m.item; mode = m.mode; own = m.own; inherited = m.inherited }

-- what a list of marks means
abbrev pub meant_marks : {I : Type 0} → (I → List ℕ) → List (Mark I) → List MarkMeant
meant_marks f ms = map (meant_mark f) ms

-- whether two modes are the same
abbrev pub same_mode : Mode → Mode → Bool
same_mode m n = row_of m == row_of n

-- whether two accesses have the same fields and the same mode
abbrev pub same_access : List ℕ → Mode → List ℕ → Mode → Bool
same_access fs mode gs other = same_fields fs gs && same_mode mode other

-- whether no bay holds a mark
abbrev pub is_vacant : MarkMeant → Bool
is_vacant m = m.own == 0 && m.inherited == 0

-- whether a mark has these fields and this mode
abbrev pub is_of : List ℕ → Mode → MarkMeant → Bool
is_of fs mode m = same_access m.fields m.mode fs mode

-- whether a mark is held and has these fields and this mode
abbrev pub is_held_of : List ℕ → Mode → MarkMeant → Bool
is_held_of fs mode m = is_of fs mode m && not (is_vacant m)

-- whether a bay holds a mark, as own or as inherited
abbrev pub holds_either : ℕ → MarkMeant → Bool
holds_either bay m = bit m.own bay || bit m.inherited bay

-- a vacant mark with these fields and this mode
abbrev pub fresh_mark : List ℕ → Mode → MarkMeant
fresh_mark fs mode = record { fields = fs; mode = mode; own = 0; inherited = 0 }

-- a mark when no bay holds it any more: its fields and mode stay, and mean nothing
abbrev pub vacated : MarkMeant → MarkMeant
vacated m = fresh_mark m.fields m.mode

-- a mark when a bay holds it as own too
abbrev pub joins : ℕ → MarkMeant → MarkMeant
joins bay m = record { fields = m.fields; mode = m.mode; own = plus_bay m.own bay; inherited = m.inherited }

-- a mark when the takers hold it as inherited too, if the bay holds it
abbrev pub inherits : ℕ → ℕ → MarkMeant → MarkMeant
inherits bay takers m = record { fields = m.fields; mode = m.mode; own = m.own; inherited = cond (holds_either bay m) (plus_all m.inherited takers) m.inherited }

-- a mark when a bay no longer holds it
abbrev pub leaves : ℕ → MarkMeant → MarkMeant
leaves bay m = record { fields = m.fields; mode = m.mode; own = minus_bay m.own bay; inherited = minus_bay m.inherited bay }

-- a mark when the takers inherit it, if the bay holds it, and then the bay leaves it
abbrev pub hands_on : ℕ → ℕ → MarkMeant → MarkMeant
hands_on bay takers m = leaves bay (inherits bay takers m)

-- the other bays that hold a mark, and a bay itself if it holds the mark as inherited
abbrev pub reached : ℕ → MarkMeant → ℕ
reached bay m = plus_all m.inherited (minus_bay m.own bay)
