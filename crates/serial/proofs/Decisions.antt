-- Deciding what is built from what can be decided: down to whether there is a path through the transactions of a list.
use Rattle.std.proofs.Common.{◌≡◌, ℕ, Bool, true, false, ◌⊎◌, List, [], ◌∷◌, refl, inl, inr}
use Rattle.std.proofs.lemmas.Bool.{false≢true}
use Rattle.serial.specs.Lists.{Some, SomePair}
use Rattle.serial.specs.Accesses.{Leads}
use Rattle.serial.specs.Paths.{PathThrough, direct, through}
use Rattle.serial.proofs.PathFacts.{one_more_stop, widen}

-- By a decision, one or the other
abbrev pub choose : {P : Type 0} → Dec P → ℕ → ℕ → ℕ
choose (yes p) m n = m
choose (no q) m n = n

pub dec_map : {P Q : Type 0} → (P → Q) → (Q → P) → Dec P → Dec Q
dec_map f g (yes p) = yes (f p)
dec_map f g (no n) = no (λ q. n (g q))

pub dec_or : {P Q : Type 0} → Dec P → Dec Q → Dec (P ⊎ Q)
dec_or (yes p) d = yes (inl p)
dec_or (no n) (yes q) = yes (inr q)
dec_or (no n) (no m) = no (λ h. elim h [ inl p ↦ n p | inr q ↦ m q ])

pub dec_and : {P Q : Type 0} → Dec P → Dec Q → Dec (P × Q)
dec_and (yes p) (yes q) = yes (p, q)
dec_and (yes p) (no m) = no (λ h. m h.1)
dec_and (no n) d = no (λ h. n h.0)

pub dec_not : {P : Type 0} → Dec P → Dec (P → ⊥)
dec_not (yes p) = no (λ n. n p)
dec_not (no n) = yes n

pub dec_true : (b : Bool) → Dec (b ≡ true)
dec_true true = yes refl
dec_true false = no false≢true

pub dec_some : {A : Type 0} (P : A → Type 0) → ((x : A) → Dec (P x)) → (xs : List A) → Dec (Some P xs)
dec_some P d [] = no (λ h. h)
dec_some P d (x ∷ xs) = dec_or (d x) (dec_some P d xs)

pub dec_pair : {A : Type 0} (R : A → A → Type 0) → ((x y : A) → Dec (R x y)) → (xs : List A) → Dec (SomePair R xs)
dec_pair R d [] = no (λ h. h)
dec_pair R d (x ∷ xs) = dec_or (dec_some (R x) (d x) xs) (dec_pair R d xs)

pub dec_leads : {A T : Type 0} → Discrete T → (by : A → T) (conflict : A → A → Bool) (xs : List A) (s t : T) →
    Dec (Leads by conflict xs s t)
dec_leads same by conflict xs s t =
    dec_pair _ (λ x y. dec_map (λ h. (h.0, h.1.0, h.1.1)) (λ h. (h.0, (h.1, h.2)))
    (dec_and (same (by x) s) (dec_and (same (by y) t) (dec_and (dec_not (same (by x) (by y))) (dec_true (conflict x y)))))) xs

-- The transactions of a list.
abbrev pub Listed : {T : Type 0} → List T → T → Type 0
Listed ts u = Some (λ t. u ≡ t) ts

pub dec_path : {T : Type 0} (L : T → T → Type 0) → ((s t : T) → Dec (L s t)) → (ts : List T) (s t : T) →
    Dec (PathThrough L (Listed ts) s t)
dec_path L d [] s t = dec_map direct only (d s t)
  where
    only : PathThrough L (Listed []) s t → L s t
    only (direct l) = l
    only (through l c p) = absurd c
dec_path L d (b ∷ ts) s t =
    dec_map
    (λ h. widen _ (λ u c. elim c [ inl m ↦ inr m | inr e ↦ inl e ]) ((one_more_stop (Listed ts) b).1 h))
    (λ p. (one_more_stop (Listed ts) b).0 (widen _ (λ u c. elim c [ inl e ↦ inr e | inr m ↦ inl m ]) p))
    (dec_or (dec_path L d ts s t) (dec_and (dec_path L d ts s b) (dec_path L d ts b t)))
