-- What a watch answers when it is asked; asking changes nothing. Assumes nothing.
use Rattle.std.specs.Prelude.{ℕ, Bool, cond, ◌&&◌, List, Ok, Err, Result, nat_lt}
use Rattle.items.specs.declared.mode.Mode.{Mode}
use Rattle.items.specs.declared.refusal.Reason.TheVariants.{NoSuchBay}
use Rattle.items.specs.declared.refusal.Refusal.{Refusal}
use Rattle.marks.specs.Holding.{holds_own, holds_inherited}
use Rattle.watch.specs.declared.bay_record.BayRecord.{BayRecord}
use Rattle.watch.specs.States.{State, record_at}
use Rattle.watch.specs.Steps.{refusal_for}

-- An answer about a bay, or the refusal where the watch has no such bay.
abbrev pub of_bay : {X : Type 0} → State → ℕ → X → Result X Refusal
of_bay s b x = cond (nat_lt b s.bays) (Ok x) (Err (refusal_for NoSuchBay))

-- The state and the counts of a bay.
abbrev pub bay_told : State → ℕ → Result BayRecord Refusal
bay_told s b = of_bay s b (record_at s.records b)

-- Whether a bay links to a bay; refused where the watch has not both.
abbrev pub link_told : State → ℕ → ℕ → Result Bool Refusal
link_told s a b = cond (nat_lt a s.bays && nat_lt b s.bays) (Ok (s.links a b)) (Err (refusal_for NoSuchBay))

-- Whether a bay holds an item of these fields and a mode as own.
abbrev pub own_told : State → ℕ → List ℕ → Mode → Result Bool Refusal
own_told s b fs m = of_bay s b (holds_own s.marks b fs m)

-- Whether a bay holds an item of these fields and a mode as inherited.
abbrev pub inherited_told : State → ℕ → List ℕ → Mode → Result Bool Refusal
inherited_told s b fs m = of_bay s b (holds_inherited s.marks b fs m)
