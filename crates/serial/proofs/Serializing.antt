-- A list of accesses is serializable by interchange exactly when no transaction has a path back to itself.
use Rattle.std.proofs.Common.{◌≡◌, ℕ, ◌<◌, Bool, ◌↔◌, List, map, arith}
use Rattle.serial.specs.Accesses.{Leads}
use Rattle.serial.specs.Paths.{PathThrough, direct, Anywhere, Cycle}
use Rattle.serial.specs.Arrangements.{Serializable}
use Rattle.serial.proofs.Decisions.{Listed, dec_leads, dec_path}
use Rattle.serial.proofs.PathFacts.{join, widen, rises, path_end}
use Rattle.serial.proofs.LeadsFacts.{leads_from_listed, leads_to_listed, leads_rising, leads_interchanges, first, first_rises, made_listed}
use Rattle.serial.proofs.Ranks.{rank, rank_rises, rank_apart}
use Rattle.serial.proofs.Sorting.{sort, sort_sorted, sort_by_interchanges, sorted_serial, every_sort}

module _ {A T : Type 0} (same : Discrete T) (by : A → T) (conflict : A → A → Bool) where
  pub serializable_no_cycle : (xs : List A) → Serializable by conflict xs → Cycle by conflict xs → ⊥
  serializable_no_cycle xs (ys, is, serial) (t, p) =
      let up : first same by ys t < first same by ys t =
      rises (first same by ys)
      (λ s u l. first_rises by conflict same ys serial s u (leads_interchanges by conflict s u is l)) p in
      omega arith

  pub no_cycle_serializable : (xs : List A) → (Cycle by conflict xs → ⊥) → Serializable by conflict xs
  no_cycle_serializable xs none = (
    sort key xs,
    sort_by_interchanges by conflict number xs (leads_rising by conflict number xs up),
    sorted_serial by number (Listed ts) apart (sort key xs) (every_sort key _ xs (made_listed by xs)) (sort_sorted key xs),
  )
    where
      ts : List T
      ts = map by xs

      Before : T → T → Type 0
      Before = PathThrough (Leads by conflict xs) (Listed ts)

      before : (s t : T) → Dec (Before s t)
      before = dec_path (Leads by conflict xs) (dec_leads same by conflict xs) ts

      number : T → ℕ
      number = rank same Before before ts

      key : A → ℕ
      key x = number (by x)

      up : (s t : T) → Leads by conflict xs s t → number s < number t
      up s t l =
          rank_rises same Before before
          (λ t p. none (t, widen Anywhere (λ _ _. tt) p))
          (λ s u t p q. join p (path_end (Listed ts) (leads_to_listed by conflict xs) p) q)
          ts s t (leads_from_listed by conflict xs s t l) (leads_to_listed by conflict xs s t l) (direct l)

      apart : (s t : T) → Listed ts s → Listed ts t → number s ≡ number t → s ≡ t
      apart = rank_apart same Before before ts

  pub serializable_exactly_without_cycle : (xs : List A) → Serializable by conflict xs ↔ (Cycle by conflict xs → ⊥)
  serializable_exactly_without_cycle xs = (serializable_no_cycle xs, no_cycle_serializable xs)
