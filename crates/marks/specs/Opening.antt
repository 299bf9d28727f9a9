-- Opening a mark list, and its refusal. Assumes nothing.
use Rattle.std.specs.Prelude.{ℕ, cond, ◌&&◌, List, map, length, Ok, Err, Result, nat_le}
use Rattle.std.specs.Borrow.{MutBor}
use Rattle.items.specs.declared.refusal.Reason.TheVariants.{BadSize}
use Rattle.items.specs.declared.refusal.Layer.TheVariants.{Watch}
use Rattle.items.specs.declared.refusal.Refusal.{Refusal}
use Rattle.marks.specs.declared.mark.Mark.{Mark}
use Rattle.marks.specs.declared.mark_list.MarkList.{MarkList}
use Rattle.marks.specs.declared.mark_list.Unopened.{Unopened}
use Rattle.marks.specs.Marks.{MarkMeant, meant_marks, vacated}
use Rattle.marks.specs.Holding.{meant_list}

-- the refusal of a list of marks that has no mark or more than 4,096
abbrev pub bad_size : Refusal
bad_size = record { reason = BadSize; layer = Watch; entry = 0 }

-- opening: every mark is vacant, or the marks themselves come back as they were, with the refusal
abbrev pub opened : {I : Type 0} → (I → List ℕ) → List (Mark I) → Result (List MarkMeant) (Refusal × List (Mark I))
opened f ms = cond (nat_le 1 (length ms) && nat_le (length ms) 4096) (Ok (map vacated (meant_marks f ms))) (Err (bad_size, ms))

-- the memory that the answer to opening holds
abbrev pub held_memory : {I : Type 0} → Result (MarkList I) (Unopened I) → MutBor (List (Mark I))
held_memory (Ok l) = l.marks
held_memory (Err u) = u.marks

-- what the answer to opening means: the list that was opened by its meaning, or the refusal and the marks themselves
abbrev pub meant_opening : {I : Type 0} → (I → List ℕ) → Result (MarkList I) (Unopened I) → Result (List MarkMeant) (Refusal × List (Mark I))
meant_opening f (Ok l) = Ok (meant_list f l)
meant_opening f (Err u) = Err (u.refusal, u.marks.now)
