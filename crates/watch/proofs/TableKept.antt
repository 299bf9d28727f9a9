-- The records of the bays stay as in the history, whatever the effect of a call. Assumes nothing.
use Rattle.std.proofs.Common.{◌≡◌, ℕ, ◌<◌, ◌≤◌, min, Bool, true, eqb, List, ◌∷◌, length, sym, ap, ◌∙◌, arith}
use Rattle.std.proofs.lemmas.Bool.{eqb-true}
use Rattle.items.specs.declared.mode.Mode.{Mode}
use Rattle.watch.specs.Answers.{Answer}
use Rattle.watch.specs.Histories.{History, Call, effect_of, is_open, is_commit, is_abort, count}
use Rattle.watch.specs.States.{State, record_at}
use Rattle.watch.specs.Steps.{Step}
use Rattle.watch.specs.Accounts.{Account, state_when}
use Rattle.watch.proofs.RecordFacts.{record_after_lem, length_after, state_after, commits_after, aborts_after}

-- What an account says of the table of bays.
pub record TableAccount (h : History) (s : State) : Type 0 where
  pub states : (k : ℕ) → (record_at s.records k).state ≡ state_when (is_open h k)
  pub commits : (k : ℕ) → (record_at s.records k).commits ≡ min (count is_commit h k) 4294967295
  pub aborts : (k : ℕ) → (record_at s.records k).aborts ≡ min (count is_abort h k) 4294967295
  pub few : s.bays ≤ 32
  pub room : s.bays ≤ length s.records

module _ (overlapping : List ℕ → List ℕ → Bool) (conflicting : Mode → Mode → Bool) (h : History) (s t : State) (c : Call) (a : Answer)
    (was : Account overlapping conflicting h s) (step : Step overlapping conflicting s c a t) (bay : c.bay < s.bays) where
  room : c.bay < length s.records
  room = let have = was.bays_have_records in omega arith

  own_record : (k : ℕ) → eqb k c.bay ≡ true → record_at s.records c.bay ≡ record_at s.records k
  own_record k e = sym (ap (record_at s.records) (eqb-true k c.bay e))

  states_kept : (k : ℕ) → (record_at t.records k).state ≡ state_when (is_open ((c, a) ∷ h) k)
  states_kept k =
      ap (λ rs. (record_at rs k).state) step.records
      ∙ ap (λ r. r.state) (record_after_lem (effect_of c.event a) s.records c.bay k room)
      ∙ state_after (effect_of c.event a) (eqb k c.bay) (record_at s.records c.bay) (record_at s.records k) (is_open h k) (own_record k) (was.bays_are_open_as_in_the_history k)

  commits_kept : (k : ℕ) → (record_at t.records k).commits ≡ min (count is_commit ((c, a) ∷ h) k) 4294967295
  commits_kept k =
      ap (λ rs. (record_at rs k).commits) step.records
      ∙ ap (λ r. r.commits) (record_after_lem (effect_of c.event a) s.records c.bay k room)
      ∙ commits_after (effect_of c.event a) (eqb k c.bay) (record_at s.records c.bay) (record_at s.records k) (count is_commit h k) (own_record k) (was.commits_are_counted k)

  aborts_kept : (k : ℕ) → (record_at t.records k).aborts ≡ min (count is_abort ((c, a) ∷ h) k) 4294967295
  aborts_kept k =
      ap (λ rs. (record_at rs k).aborts) step.records
      ∙ ap (λ r. r.aborts) (record_after_lem (effect_of c.event a) s.records c.bay k room)
      ∙ aborts_after (effect_of c.event a) (eqb k c.bay) (record_at s.records c.bay) (record_at s.records k) (count is_abort h k) (own_record k) (was.aborts_are_counted k)

  few_kept : t.bays ≤ 32
  few_kept = let few = was.bays_are_few in let same = step.bays in omega arith

  room_kept : t.bays ≤ length t.records
  room_kept =
      let have = was.bays_have_records in let same = step.bays in
      let long : length t.records ≡ length s.records = ap length step.records ∙ length_after (effect_of c.event a) s.records c.bay in
      omega arith

  pub table_kept : TableAccount ((c, a) ∷ h) t
  table_kept = record { states = states_kept; commits = commits_kept; aborts = aborts_kept; few = few_kept; room = room_kept }
