-- Which bays hold which fields and mode, and how many marks are held, in any list of marks. Assumes nothing.
use Rattle.std.specs.Prelude.{ℕ, Bool, not, ◌&&◌, List, count_by}
use Rattle.std.specs.List.{list_any}
use Rattle.items.specs.declared.mode.Mode.{Mode}
use Rattle.boards.specs.BaySets.{bit}
use Rattle.marks.specs.declared.mark_list.MarkList.{MarkList}
use Rattle.marks.specs.Marks.{MarkMeant, meant_marks, is_vacant, is_of}

-- what a mark list means
abbrev pub meant_list : {I : Type 0} → (I → List ℕ) → MarkList I → List MarkMeant
meant_list f l = meant_marks f l.marks.now

-- whether a bay holds these fields and this mode as own
abbrev pub holds_own : List MarkMeant → ℕ → List ℕ → Mode → Bool
holds_own ms bay fs mode = list_any (λ m. is_of fs mode m && bit m.own bay) ms

-- whether a bay holds these fields and this mode as inherited
abbrev pub holds_inherited : List MarkMeant → ℕ → List ℕ → Mode → Bool
holds_inherited ms bay fs mode = list_any (λ m. is_of fs mode m && bit m.inherited bay) ms

-- how many marks are held
abbrev pub held_count : List MarkMeant → ℕ
held_count ms = count_by (λ m. not (is_vacant m)) ms
