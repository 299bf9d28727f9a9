-- The calls made since the opening with their answers, and what is read from them alone. Assumes nothing.
use Rattle.std.specs.Prelude.{ℕ, suc, Bool, true, false, cond, not, ◌&&◌, ◌||◌, List, [], ◌∷◌, ◌++◌, ◌==◌, Ok, Err}
use Rattle.items.specs.declared.entry.Entry.{Entry}
use Rattle.items.specs.declared.entry.Event.{Event}
use Rattle.items.specs.declared.entry.Event.TheVariants.{Begin, Commit, Abort}
use Rattle.items.specs.declared.mode.Mode.{Mode}
use Rattle.serial.specs.Accesses.{Transaction}
use Rattle.serial.specs.Changes.{kept}
use Rattle.watch.specs.declared.answer.Verdict.{Verdict}
use Rattle.watch.specs.declared.answer.Verdict.TheVariants.{Clean, Crossed}
use Rattle.watch.specs.declared.answer.Outcome.TheVariants.{Done, Committed}
use Rattle.watch.specs.Answers.{Answer}

-- A call names a bay, by any number, and an event there, its item by the item's fields.
abbrev pub Call : Type 0
Call = Entry (List ℕ)

-- A history is the calls made since the opening with their answers, the newest first, refused ones too.
abbrev pub History : Type 0
History = List (Call × Answer)

-- What a call does to the transaction of its bay; a refused call does nothing.
pub data Effect : Type 0 where
  Nothing : Effect
  Begins : Effect
  Accesses : List ℕ → Mode → Effect
  Commits : Verdict → Effect
  Aborts : Effect

-- An event has its effect when it is answered as such an event is, and otherwise none.
abbrev pub effect_of : Event (List ℕ) → Answer → Effect
effect_of Begin (Ok Done) = Begins
effect_of Begin (Ok (Committed v)) = Nothing
effect_of Begin (Err r) = Nothing
effect_of Commit (Ok Done) = Nothing
effect_of Commit (Ok (Committed v)) = Commits v
effect_of Commit (Err r) = Nothing
effect_of Abort (Ok Done) = Aborts
effect_of Abort (Ok (Committed v)) = Nothing
effect_of Abort (Err r) = Nothing
effect_of (Event.Access m fs) (Ok Done) = Accesses fs m
effect_of (Event.Access m fs) (Ok (Committed v)) = Nothing
effect_of (Event.Access m fs) (Err r) = Nothing

-- The effect of a call that was answered.
abbrev pub effect : Call × Answer → Effect
effect x = effect_of x.0.event x.1

-- Whether a transaction begins.
abbrev pub is_begin : Effect → Bool
is_begin Nothing = false
is_begin Begins = true
is_begin (Accesses fs m) = false
is_begin (Commits v) = false
is_begin Aborts = false

-- Whether a transaction is committed.
abbrev pub is_commit : Effect → Bool
is_commit Nothing = false
is_commit Begins = false
is_commit (Accesses fs m) = false
is_commit (Commits v) = true
is_commit Aborts = false

-- Whether a transaction is aborted.
abbrev pub is_abort : Effect → Bool
is_abort Nothing = false
is_abort Begins = false
is_abort (Accesses fs m) = false
is_abort (Commits v) = false
is_abort Aborts = true

-- Whether a transaction ends: by a commit or by an abort.
abbrev pub is_end : Effect → Bool
is_end e = is_commit e || is_abort e

-- Whether a commit crosses.
abbrev pub is_crossing : Effect → Bool
is_crossing Nothing = false
is_crossing Begins = false
is_crossing (Accesses fs m) = false
is_crossing (Commits Clean) = false
is_crossing (Commits Crossed) = true
is_crossing Aborts = false

-- Whether bay b is open: the newest of the begins, commits and aborts there is a begin.
abbrev pub is_open : History → ℕ → Bool
is_open [] b = false
is_open (x ∷ h) b = (is_begin (effect x) && b == x.0.bay) || (not (is_end (effect x) && b == x.0.bay) && is_open h b)

-- How many calls on bay b have an effect that passes a test.
abbrev pub count : (Effect → Bool) → History → ℕ → ℕ
count test [] b = 0
count test (x ∷ h) b = cond (test (effect x) && b == x.0.bay) (suc (count test h b)) (count test h b)

-- How many transactions ended in bay b.
abbrev pub ended : History → ℕ → ℕ
ended h b = count is_end h b

-- The transaction that is open in bay b, where one is.
abbrev pub open_transaction : History → ℕ → Transaction
open_transaction h b = record { bay = b; number = ended h b }

-- Whether two transactions are the same.
abbrev pub same_transaction : Transaction → Transaction → Bool
same_transaction t u = t.bay == u.bay && t.number == u.number

-- Whether a transaction is committed: one of the calls commits it.
abbrev pub is_committed : History → Transaction → Bool
is_committed [] t = false
is_committed (x ∷ h) t = (is_commit (effect x) && same_transaction t (open_transaction h x.0.bay)) || is_committed h t

-- Whether a transaction is aborted: one of the calls aborts it.
abbrev pub is_aborted : History → Transaction → Bool
is_aborted [] t = false
is_aborted (x ∷ h) t = (is_abort (effect x) && same_transaction t (open_transaction h x.0.bay)) || is_aborted h t

-- An access is made by a transaction, to an item that has these fields, in a mode.
pub record Access : Type 0 where
  pub transaction : Transaction
  pub fields : List ℕ
  pub mode : Mode

-- The transaction that made an access.
abbrev pub made_by : Access → Transaction
made_by x = x.transaction

-- The accesses with one more, where a call of this transaction's bay makes one.
abbrev pub accesses_after : Effect → Transaction → List Access → List Access
accesses_after Nothing t xs = xs
accesses_after Begins t xs = xs
accesses_after (Accesses fs m) t xs = xs ++ (record { transaction = t; fields = fs; mode = m } ∷ [])
accesses_after (Commits v) t xs = xs
accesses_after Aborts t xs = xs

-- The accesses that were made, the oldest first.
abbrev pub accesses : History → List Access
accesses [] = []
accesses (x ∷ h) = accesses_after (effect x) (open_transaction h x.0.bay) (accesses h)

-- The accesses of committed transactions, in order of acceptance.
abbrev pub committed_accesses : History → List Access
committed_accesses h = kept made_by (is_committed h) (accesses h)

-- Whether some commit crossed.
abbrev pub has_crossed : History → Bool
has_crossed [] = false
has_crossed (x ∷ h) = is_crossing (effect x) || has_crossed h

-- The test of whether two accesses conflict by their items and modes: the items overlap and the modes conflict.
abbrev pub conflict : (List ℕ → List ℕ → Bool) → (Mode → Mode → Bool) → Access → Access → Bool
conflict overlapping conflicting x y = overlapping x.fields y.fields && conflicting x.mode y.mode

-- The history after more calls, the oldest of them first, with their answers.
abbrev pub history_after : History → List Call → List Answer → History
history_after h [] answers = h
history_after h (c ∷ calls) [] = h
history_after h (c ∷ calls) (a ∷ answers) = history_after ((c, a) ∷ h) calls answers

-- The history of calls, the oldest first, with their answers.
abbrev pub history_of : List Call → List Answer → History
history_of calls answers = history_after [] calls answers
