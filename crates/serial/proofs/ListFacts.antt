-- Some element, every element, some earlier and later pair: under a weaker relation, one more at the end, and a filter.
use Rattle.std.proofs.Common.{◌≡◌, Bool, ◌⊎◌, ◌↔◌, List, [], ◌∷◌, ◌++◌, refl, inl, inr, arith}
use Rattle.serial.specs.Lists.{Some, Every, SomePair}
use Rattle.serial.specs.Paths.{In}
use Rattle.serial.specs.Changes.{kept}

pub some_map : {A : Type 0} (P Q : A → Type 0) → ((x : A) → P x → Q x) → (xs : List A) → Some P xs → Some Q xs
some_map P Q f [] h = absurd h
some_map P Q f (x ∷ xs) (inl p) = inl (f x p)
some_map P Q f (x ∷ xs) (inr h) = inr (some_map P Q f xs h)

pub pair_map : {A : Type 0} (R S : A → A → Type 0) → ((x y : A) → R x y → S x y) → (xs : List A) → SomePair R xs →
    SomePair S xs
pair_map R S f [] h = absurd h
pair_map R S f (x ∷ xs) (inl p) = inl (some_map (R x) (S x) (f x) xs p)
pair_map R S f (x ∷ xs) (inr h) = inr (pair_map R S f xs h)

pub every_map : {A : Type 0} (P Q : A → Type 0) → ((x : A) → P x → Q x) → (xs : List A) → Every P xs → Every Q xs
every_map P Q f [] h = tt
every_map P Q f (x ∷ xs) h = (f x h.0, every_map P Q f xs h.1)

-- An element with P, where every element has Q, has both.
pub some_every : {A : Type 0} (P Q : A → Type 0) (xs : List A) → Some P xs → Every Q xs → (x : A) × P x × Q x
some_every P Q [] h k = absurd h
some_every P Q (x ∷ xs) (inl p) k = (x, p, k.0)
some_every P Q (x ∷ xs) (inr h) k = some_every P Q xs h k.1

-- What every element with P tells, some element with P tells.
pub some_tells : {A : Type 0} (P : A → Type 0) (Q : Type 0) → ((x : A) → P x → Q) → (xs : List A) → Some P xs → Q
some_tells P Q f [] h = absurd h
some_tells P Q f (x ∷ xs) (inl p) = f x p
some_tells P Q f (x ∷ xs) (inr h) = some_tells P Q f xs h

pub pair_tells : {A : Type 0} (R : A → A → Type 0) (Q : Type 0) → ((x y : A) → R x y → Q) → (xs : List A) →
    SomePair R xs → Q
pair_tells R Q f [] h = absurd h
pair_tells R Q f (x ∷ xs) (inl p) = some_tells (R x) Q (f x) xs p
pair_tells R Q f (x ∷ xs) (inr h) = pair_tells R Q f xs h

pub pair_earlier : {A : Type 0} (R : A → A → Type 0) (P : A → Type 0) → ((x y : A) → R x y → P x) → (xs : List A) →
    SomePair R xs → Some P xs
pair_earlier R P f [] h = absurd h
pair_earlier R P f (x ∷ xs) (inl p) = inl (some_tells (R x) (P x) (f x) xs p)
pair_earlier R P f (x ∷ xs) (inr h) = inr (pair_earlier R P f xs h)

pub pair_later : {A : Type 0} (R : A → A → Type 0) (P : A → Type 0) → ((x y : A) → R x y → P y) → (xs : List A) →
    SomePair R xs → Some P xs
pair_later R P f [] h = absurd h
pair_later R P f (x ∷ xs) (inl p) = inr (some_map (R x) P (f x) xs p)
pair_later R P f (x ∷ xs) (inr h) = inr (pair_later R P f xs h)

pub every_from_some : {A : Type 0} (P : A → Type 0) (xs : List A) → ((y : A) → Some (λ z. z ≡ y) xs → P y) → Every P xs
every_from_some P [] f = tt
every_from_some P (x ∷ xs) f = (f x (inl refl), every_from_some P xs (λ y h. f y (inr h)))

pub some_push : {A : Type 0} (P : A → Type 0) (xs : List A) (y : A) → Some P (xs ++ (y ∷ [])) ↔ (Some P xs ⊎ P y)
some_push P [] y = (grind arith, grind arith)
some_push P (x ∷ xs) y = let ih = some_push P xs y in (grind arith, grind arith)

pub pair_push : {A : Type 0} (R : A → A → Type 0) (xs : List A) (y : A) → SomePair R (xs ++ (y ∷ [])) ↔
    (SomePair R xs ⊎ Some (λ x. R x y) xs)
pair_push R [] y = (grind arith, grind arith)
pair_push R (x ∷ xs) y = let ih = pair_push R xs y in let one = some_push (R x) xs y in (grind arith, grind arith)

pub some_kept : {A T : Type 0} (by : A → T) (set : T → Bool) (P : A → Type 0) (xs : List A) → Some P (kept by set xs) ↔
    Some (λ x. In set (by x) × P x) xs
some_kept by set P [] = (λ h. h, λ h. h)
some_kept by set P (x ∷ xs) = let ih = some_kept by set P xs in (grind arith, grind arith)

some_with : {A : Type 0} (Q : Type 0) (P : A → Type 0) (xs : List A) → Some (λ y. Q × P y) xs ↔ (Q × Some P xs)
some_with Q P [] = (λ h. absurd h, λ h. h.1)
some_with Q P (x ∷ xs) = let ih = some_with Q P xs in (grind arith, grind arith)

pub pair_kept : {A T : Type 0} (by : A → T) (set : T → Bool) (R : A → A → Type 0) (xs : List A) →
    SomePair R (kept by set xs) ↔ SomePair (λ x y. In set (by x) × (In set (by y) × R x y)) xs
pair_kept by set R [] = (λ h. h, λ h. h)
pair_kept by set R (x ∷ xs) =
    let ih = pair_kept by set R xs in
    let one = some_kept by set (R x) xs in
    let with = some_with (In set (by x)) (λ y. In set (by y) × R x y) xs in
    (grind arith, grind arith)
