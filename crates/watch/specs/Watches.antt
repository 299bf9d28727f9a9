-- A watch by its meaning. Assumes nothing.
use Rattle.std.specs.Prelude.{ℕ, List}
use Rattle.items.specs.declared.entry.Event.{Event}
use Rattle.boards.specs.Boards.{Links}
use Rattle.marks.specs.Holding.{meant_list}
use Rattle.watch.specs.declared.watch.Watch.{Watch}
use Rattle.watch.specs.Histories.{Call}
use Rattle.watch.specs.States.{State}

-- The state of a watch, where a board means its links and an item its fields.
abbrev pub state_of : {I B : Type 0} → (B → Links) → (I → List ℕ) → Watch I B → State
state_of linked fields w =
    record { links = linked w.board; marks = meant_list fields w.marks; records = w.bays.records; bays = w.bays.count; verdict = w.verdict }

-- A call of an event in a bay.
abbrev pub call_of : ℕ → Event (List ℕ) → Call
call_of b e = record { bay = b; event = e }
