-- Answers to calls, and their parts. Assumes nothing.
use Rattle.std.specs.Prelude.{Ok, Err, Result}
use Rattle.items.specs.declared.refusal.Refusal.{Refusal}
use Rattle.watch.specs.declared.answer.Verdict.{Verdict}
use Rattle.watch.specs.declared.answer.Verdict.TheVariants.{Clean}
use Rattle.watch.specs.declared.answer.Outcome.{Outcome}
use Rattle.watch.specs.declared.answer.Outcome.TheVariants.{Done, Committed}

-- The answer to a call: its outcome, or its refusal.
abbrev pub Answer : Type 0
Answer = Result Outcome Refusal

-- The answer to a begin, an access or an abort: done, or refused.
abbrev pub done_or : Result (Unit {0}) Refusal → Answer
done_or (Ok x) = Ok Done
done_or (Err r) = Err r

-- The answer to a commit: its verdict, or refused.
abbrev pub verdict_or : Result Verdict Refusal → Answer
verdict_or (Ok v) = Ok (Committed v)
verdict_or (Err r) = Err r

-- The verdict that a call leaves by its outcome, Clean where there is none.
abbrev pub verdict_left : Outcome → Verdict
verdict_left Done = Clean
verdict_left (Committed v) = v
