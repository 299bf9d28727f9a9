-- What leads to what: the ends stand in the list, differ, keep their order under interchanges, and rise in a serial list.
use Rattle.std.proofs.Common.{◌≡◌, ℕ, suc, ◌<◌, Bool, List, [], ◌∷◌, map, sym, refl, ap, ◌∙◌, subst, inl, inr, arith}
use Rattle.serial.specs.Lists.{Some, Every, SomePair}
use Rattle.serial.specs.Accesses.{Conflict, Leads}
use Rattle.serial.specs.Arrangements.{Interchange, here, there, Interchanges, unchanged, and_then, Next, Serial}
use Rattle.serial.proofs.ListFacts.{some_map, some_tells, pair_tells, pair_earlier, pair_later, every_from_some}
use Rattle.serial.proofs.Decisions.{Listed, choose}
use Rattle.serial.proofs.Sorting.{Rising}

-- The place of a transaction's first access.
abbrev pub first : {A T : Type 0} → Discrete T → (A → T) → List A → T → ℕ
first same by [] t = 0
first same by (x ∷ xs) t = choose (same (by x) t) 0 (suc (first same by xs t))

some_listed : {A T : Type 0} (by : A → T) (t : T) (xs : List A) → Some (λ x. by x ≡ t) xs → Listed (map by xs) t
some_listed by t [] h = h
some_listed by t (x ∷ xs) (inl e) = inl (sym e)
some_listed by t (x ∷ xs) (inr h) = inr (some_listed by t xs h)

swapped : {A : Type 0} (P : A → Type 0) (x y : A) (xs : List A) → Some P (x ∷ (y ∷ xs)) → Some P (y ∷ (x ∷ xs))
swapped P x y xs h = grind arith

pair_swapped : {A : Type 0} (R : A → A → Type 0) (x y : A) (xs : List A) → (R x y → ⊥) → SomePair R (x ∷ (y ∷ xs)) →
    SomePair R (y ∷ (x ∷ xs))
pair_swapped R x y xs never h = grind arith

module _ {A T : Type 0} (by : A → T) (conflict : A → A → Bool) where
  pub leads_differ : (xs : List A) (s t : T) → Leads by conflict xs s t → s ≡ t → ⊥
  leads_differ xs s t l e = pair_tells _ ⊥ (λ x y h. h.2.0 (h.0 ∙ (e ∙ sym h.1))) xs l

  pub leads_from_listed : (xs : List A) (s t : T) → Leads by conflict xs s t → Listed (map by xs) s
  leads_from_listed xs s t l = some_listed by s xs (pair_earlier _ _ (λ x y h. h.0) xs l)

  pub leads_to_listed : (xs : List A) (s t : T) → Leads by conflict xs s t → Listed (map by xs) t
  leads_to_listed xs s t l = some_listed by t xs (pair_later _ _ (λ x y h. h.1) xs l)

  -- A rank that rises wherever one transaction leads to another rises from each access to those it conflicts with.
  pub leads_rising : (rank : T → ℕ) (xs : List A) → ((s t : T) → Leads by conflict xs s t → rank s < rank t) →
      Rising by conflict (λ x. rank (by x)) xs
  leads_rising rank [] up = tt
  leads_rising rank (x ∷ xs) up = (
    every_from_some _ xs
        (λ y m c. up (by x) (by y) (inl (some_map _ _ (λ z e. (refl, ap by e, subst (Conflict by conflict x) (sym e) c)) xs m))),
    leads_rising rank xs (λ s t l. up s t (inr l)),
  )

  some_interchange : (P : A → Type 0) {xs ys : List A} → Interchange by conflict xs ys → Some P xs → Some P ys
  some_interchange P (here {x = x} {y = y} {xs = xs} n c) h = swapped P x y xs h
  some_interchange P (there i) (inl p) = inl p
  some_interchange P (there i) (inr h) = inr (some_interchange P i h)

  pair_interchange : (R : A → A → Type 0) → ((x y : A) → R x y → Conflict by conflict x y) → {xs ys : List A} →
      Interchange by conflict xs ys → SomePair R xs → SomePair R ys
  pair_interchange R f (here {x = x} {y = y} {xs = xs} n c) h = pair_swapped R x y xs (λ r. c (f x y r)) h
  pair_interchange R f (there {x = x} i) (inl p) = inl (some_interchange (R x) i p)
  pair_interchange R f (there i) (inr h) = inr (pair_interchange R f i h)

  -- Interchanges keep what leads to what.
  pub leads_interchanges : (s t : T) {xs ys : List A} → Interchanges by conflict xs ys → Leads by conflict xs s t →
      Leads by conflict ys s t
  leads_interchanges s t unchanged l = l
  leads_interchanges s t (and_then i is) l = leads_interchanges s t is (pair_interchange _ (λ x y h. h.2) i l)

  next_first : (same : Discrete T) (t : T) (xs : List A) → Next by t xs → first same by xs t ≡ 0
  next_first same t [] h = absurd h
  next_first same t (x ∷ xs) h = grind arith

  -- In a serial list the first place of a transaction rises where one leads to another.
  pub first_rises : (same : Discrete T) (xs : List A) → Serial by xs → (s t : T) → Leads by conflict xs s t →
      first same by xs s < first same by xs t
  first_rises same [] h s t l = absurd l
  first_rises same (x ∷ xs) h s t (inl p) =
      let differ = leads_differ (x ∷ xs) s t (inl p) in
      let own = some_tells _ (by x ≡ s) (λ y q. q.0) xs p in
      grind arith
  first_rises same (x ∷ xs) h s t (inr l) =
      let differ = leads_differ xs s t l in
      let ih = first_rises same xs h.1 s t l in
      let start : by x ≡ t → first same by xs t ≡ 0 =
      λ e. next_first same t xs (subst (λ u. Next by u xs) e (h.0 (pair_later _ _ (λ y z q. q.1 ∙ sym e) xs l))) in
      grind arith

pub made_listed : {A T : Type 0} (by : A → T) (xs : List A) → Every (λ x. Listed (map by xs) (by x)) xs
made_listed by xs = every_from_some _ xs (λ y h. some_listed by (by y) xs (some_map _ _ (λ z e. ap by e) xs h))
