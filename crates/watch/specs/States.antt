-- The state of a watch, and what it begins with. Assumes nothing.
use Rattle.std.specs.Prelude.{◌≡◌, ℕ, ◌<◌, List, map, replicate, slice_index_or}
use Rattle.boards.specs.Boards.{Links, no_links}
use Rattle.marks.specs.Marks.{MarkMeant, vacated}
use Rattle.watch.specs.declared.answer.Verdict.{Verdict}
use Rattle.watch.specs.declared.answer.Verdict.TheVariants.{Clean}
use Rattle.watch.specs.declared.bay_record.BayRecord.{BayRecord}
use Rattle.watch.specs.declared.bay_record.BayState.TheVariants.{Idle}

-- A watch by its meaning: which bay links to which, its marks, the records of its bays, how many bays it has, and its verdict.
pub record State : Type 0 where
  pub links : Links
  pub marks : List MarkMeant
  pub records : List BayRecord
  pub bays : ℕ
  pub verdict : Verdict

-- The record of a bay in which nothing has happened.
abbrev pub fresh_record : BayRecord
fresh_record = record { state = Idle; commits = 0; aborts = 0 }

-- The record of bay b in a table; a bay past its end has the fresh one.
abbrev pub record_at : List BayRecord → ℕ → BayRecord
record_at records b = slice_index_or records b fresh_record

-- Two sets of links have the same pairs of the 32 bays.
abbrev pub LinksAgree : Links → Links → Type 0
LinksAgree links other = (a b : ℕ) → a < 32 → b < 32 → links a b ≡ other a b

-- Two states are the same, their links pair by pair.
pub record SameState (s t : State) : Type 0 where
  pub links : LinksAgree s.links t.links
  pub marks : s.marks ≡ t.marks
  pub records : s.records ≡ t.records
  pub bays : s.bays ≡ t.bays
  pub verdict : s.verdict ≡ t.verdict

-- A watch of so many bays just opened over these marks: no links, every mark vacant, every bay idle, and Clean.
abbrev pub opened_state : ℕ → List MarkMeant → State
opened_state bays marks =
    record { links = no_links; marks = map vacated marks; records = replicate 32 fresh_record; bays = bays; verdict = Clean }
