-- Sorting by a key, by interchanges of neighbours alone.
use Rattle.std.proofs.Common.{◌≡◌, ℕ, ◌<◌, ◌≤◌, Bool, cond, ltb, List, [], ◌∷◌, ap, inl, inr, arith}
use Rattle.std.proofs.lemmas.Bool.{cond_both, ltb-true}
use Rattle.std.proofs.lemmas.Bool.Decides.{nat_tests}
use Rattle.serial.specs.Lists.{Some, Every}
use Rattle.serial.specs.Accesses.{Conflict}
use Rattle.serial.specs.Arrangements.{here, there, Interchanges, unchanged, and_then, Next, Serial}
use Rattle.serial.proofs.ListFacts.{every_map, some_every}

-- x goes past those with a smaller key.
abbrev pub insert : {A : Type 0} → (A → ℕ) → A → List A → List A
insert key x [] = x ∷ []
insert key x (y ∷ ys) = cond (ltb (key y) (key x)) (y ∷ insert key x ys) (x ∷ (y ∷ ys))

abbrev pub sort : {A : Type 0} → (A → ℕ) → List A → List A
sort key [] = []
sort key (x ∷ xs) = insert key x (sort key xs)

-- No element is before one with a smaller key.
abbrev pub Sorted : {A : Type 0} → (A → ℕ) → List A → Type 0
Sorted key [] = Unit {0}
Sorted key (x ∷ xs) = Every (λ y. key x ≤ key y) xs × Sorted key xs

pub every_insert : {A : Type 0} (key : A → ℕ) (P : A → Type 0) (x : A) (ys : List A) → P x → Every P ys →
    Every P (insert key x ys)
every_insert key P x [] p h = (p, tt)
every_insert key P x (y ∷ ys) p h = let ih = every_insert key P x ys p h.1 in grind arith

pub every_sort : {A : Type 0} (key : A → ℕ) (P : A → Type 0) (xs : List A) → Every P xs → Every P (sort key xs)
every_sort key P [] h = tt
every_sort key P (x ∷ xs) h = every_insert key P x (sort key xs) h.0 (every_sort key P xs h.1)

insert_sorted : {A : Type 0} (key : A → ℕ) (x : A) (ys : List A) → Sorted key ys → Sorted key (insert key x ys)
insert_sorted key x [] h = (tt, tt)
insert_sorted key x (y ∷ ys) h =
    let ih = insert_sorted key x ys h.1 in
    let after : key y ≤ key x → Every (λ z. key y ≤ key z) (insert key x ys) = λ le. every_insert key _ x ys le h.0 in
    let before : key x ≤ key y → Every (λ z. key x ≤ key z) ys = λ le. every_map _ _ (λ z k. omega arith) ys h.0 in
    grind (arith, nat_tests)

pub sort_sorted : {A : Type 0} (key : A → ℕ) (xs : List A) → Sorted key (sort key xs)
sort_sorted key [] = tt
sort_sorted key (x ∷ xs) = insert_sorted key x (sort key xs) (sort_sorted key xs)

-- Sorted by a key that tells transactions apart, a list is serial.
pub sorted_serial : {A T : Type 0} (by : A → T) (rank : T → ℕ) (M : T → Type 0) →
    ((s t : T) → M s → M t → rank s ≡ rank t → s ≡ t) → (xs : List A) → Every (λ x. M (by x)) xs →
    Sorted (λ x. rank (by x)) xs → Serial by xs
sorted_serial by rank M apart [] m h = tt
sorted_serial by rank M apart (x ∷ xs) m h = (next xs m.1 h, sorted_serial by rank M apart xs m.1 h.1)
  where
    next : (ys : List _) → Every (λ y. M (by y)) ys → Sorted (λ y. rank (by y)) (x ∷ ys) → Some (λ y. by y ≡ by x) ys →
        Next by (by x) ys
    next [] n k h = absurd h
    next (y ∷ ys) n k (inl e) = e
    next (y ∷ ys) n k (inr s) =
        let z = some_every _ _ ys s k.1.0 in
        let e : rank (by z.0) ≡ rank (by x) = ap rank z.1 in
        apart (by y) (by x) n.0 m.0 (omega arith)

module _ {A T : Type 0} (by : A → T) (conflict : A → A → Bool) where
  pub there_too : {x : A} {xs ys : List A} → Interchanges by conflict xs ys → Interchanges by conflict (x ∷ xs) (x ∷ ys)
  there_too unchanged = unchanged
  there_too (and_then i is) = and_then (there i) (there_too is)

  pub one_after_another : {xs ys zs : List A} → Interchanges by conflict xs ys → Interchanges by conflict ys zs →
      Interchanges by conflict xs zs
  one_after_another unchanged js = js
  one_after_another (and_then i is) js = and_then i (one_after_another is js)

  -- Every conflict is between an access and a later one with a larger key.
  abbrev pub Rising : (A → ℕ) → List A → Type 0
  Rising key [] = Unit {0}
  Rising key (x ∷ xs) = Every (λ y. Conflict by conflict x y → key x < key y) xs × Rising key xs

module _ {A T : Type 0} (by : A → T) (conflict : A → A → Bool) (rank : T → ℕ) where
  insert_by_interchanges : (x : A) (ys : List A) →
      Every (λ y. Conflict by conflict x y → rank (by x) < rank (by y)) ys →
      Interchanges by conflict (x ∷ ys) (insert (λ z. rank (by z)) x ys)
  insert_by_interchanges x [] h = unchanged
  insert_by_interchanges x (y ∷ ys) h =
      cond_both (ltb (rank (by y)) (rank (by x))) _ _ (Interchanges by conflict (x ∷ (y ∷ ys)))
      (λ e.
      let lt = ltb-true _ _ e in
      and_then (here (λ same. let e : rank (by x) ≡ rank (by y) = ap rank same in omega arith) (λ c. let up = h.0 c in omega arith))
      (there_too by conflict (insert_by_interchanges x ys h.1)))
      (λ _. unchanged)

  pub sort_by_interchanges : (xs : List A) → Rising by conflict (λ z. rank (by z)) xs →
      Interchanges by conflict xs (sort (λ z. rank (by z)) xs)
  sort_by_interchanges [] h = unchanged
  sort_by_interchanges (x ∷ xs) h =
      one_after_another by conflict
      (there_too by conflict (sort_by_interchanges xs h.1))
      (insert_by_interchanges x _ (every_sort _ _ xs h.0))
