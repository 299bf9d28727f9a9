-- When no mark is left for an access, by the history alone. Assumes nothing.
use Rattle.std.specs.Prelude.{◌≡◌, ℕ, ◌<◌, Bool, true, false, ◌⊎◌, ◌↔◌, List, length}
use Rattle.items.specs.declared.entry.Event.{Event}
use Rattle.items.specs.declared.mode.Mode.{Mode}
use Rattle.items.specs.declared.refusal.Reason.TheVariants.{NoVacantMark}
use Rattle.marks.specs.Apart.{is_listed, listed_once}
use Rattle.watch.specs.Histories.{History, is_open, open_transaction, has_crossed}
use Rattle.watch.specs.States.{State}
use Rattle.watch.specs.Steps.{refused_for, answer_to}
use Rattle.watch.specs.Accounts.{MadeAccess, ReachesAccess}

module _ (overlapping : List ℕ → List ℕ → Bool) (conflicting : Mode → Mode → Bool) where
  -- By the history some bay holds these fields and this mode: its open transaction made such an access, or a path leads
  -- from it to a committed one that did.
  abbrev pub HeldInHistory : History → List ℕ → Mode → Type 0
  HeldInHistory h fs m =
      (b : ℕ) × (is_open h b ≡ true) ×
      (MadeAccess h fs m (open_transaction h b) ⊎ ReachesAccess overlapping conflicting h fs m (open_transaction h b))

  -- A list has all fields and modes that are held by the history, each once, and no others.
  pub record ListsHeld (h : History) (held : List (List ℕ × Mode)) : Type 0 where
    pub once : listed_once held ≡ true
    pub exactly : (fs : List ℕ) (m : Mode) → (is_listed held fs m ≡ true) ↔ HeldInHistory h fs m

  -- The history settles for want of which mark an access is refused: until a crossing there is such a list, and with any such
  -- list an access in an open bay is refused exactly when its fields and mode are not held and as many are as there are marks.
  pub record VacancySettled (h : History) (s : State) : Type 0 where
    pub listed : has_crossed h ≡ false → (held : List (List ℕ × Mode)) × ListsHeld h held
    pub settled : has_crossed h ≡ false → (held : List (List ℕ × Mode)) → ListsHeld h held → (b : ℕ) → b < s.bays →
        is_open h b ≡ true → (fs : List ℕ) (m : Mode) →
        (answer_to s (record { bay = b; event = Event.Access m fs }) ≡ refused_for NoVacantMark) ↔
        ((HeldInHistory h fs m → ⊥) × (length held ≡ length s.marks))
