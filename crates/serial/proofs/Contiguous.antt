-- Every transaction's accesses stand next to one another exactly when between two accesses of one stand only accesses of it.
use Rattle.std.proofs.Common.{◌≡◌, ◌↔◌, List, [], ◌∷◌, ◌++◌, sym, refl, ap, ◌∙◌, subst, inl, inr}
use Rattle.serial.specs.Lists.{Some, Every}
use Rattle.serial.specs.Arrangements.{Next, Serial, OnlyOwnBetween}
use Rattle.serial.proofs.ListFacts.{every_map}

-- An element that stands somewhere has what is before it and what is after it.
pub some_split : {A : Type 0} (P : A → Type 0) (xs : List A) → Some P xs →
    (before after : List A) × (z : A) × (xs ≡ before ++ (z ∷ after)) × P z
some_split P [] h = absurd h
some_split P (x ∷ xs) (inl p) = ([], xs, x, refl, p)
some_split P (x ∷ xs) (inr h) = let (b, a, z, e, p) = some_split P xs h in (x ∷ b, a, z, ap (λ l. x ∷ l) e, p)

some_after : {A : Type 0} (P : A → Type 0) (before after : List A) (z : A) → P z → Some P (before ++ (z ∷ after))
some_after P [] after z p = inl p
some_after P (x ∷ before) after z p = inr (some_after P before after z p)

module _ {A T : Type 0} (by : A → T) where
  own_between : (between after : List A) (x z : A) → Serial by (x ∷ (between ++ (z ∷ after))) → by z ≡ by x →
      Every (λ y. by y ≡ by x) between
  own_between [] after x z h e = tt
  own_between (y ∷ between) after x z h e =
      let next : by y ≡ by x = h.0 (inr (some_after _ between after z e)) in
      (next, every_map _ _ (λ w k. k ∙ next) between (own_between between after y z h.1 (e ∙ sym next)))

  serial_between : (before between after : List A) (x z : A) → Serial by (before ++ (x ∷ (between ++ (z ∷ after)))) →
      by z ≡ by x → Every (λ y. by y ≡ by x) between
  serial_between [] between after x z h e = own_between between after x z h e
  serial_between (w ∷ before) between after x z h e = serial_between before between after x z h.1 e

  between_next : (t : T) (between after : List A) (z : A) → by z ≡ t → Every (λ y. by y ≡ t) between →
      Next by t (between ++ (z ∷ after))
  between_next t [] after z e h = e
  between_next t (y ∷ between) after z e h = h.0

  between_serial : (xs : List A) → OnlyOwnBetween by xs → Serial by xs
  between_serial [] h = tt
  between_serial (x ∷ xs) h = (
    λ again.
        let (b, a, z, e, p) = some_split _ xs again in
        subst (Next by (by x)) (sym e) (between_next (by x) b a z p (h [] b a x z (ap (λ l. x ∷ l) e) p)),
    between_serial xs (λ before between after y z e. h (x ∷ before) between after y z (ap (λ l. x ∷ l) e)),
  )

  pub serial_exactly_when_only_own_between : (xs : List A) → Serial by xs ↔ OnlyOwnBetween by xs
  serial_exactly_when_only_own_between xs =
      (λ h before between after x z e. serial_between before between after x z (subst (Serial by) e h), between_serial xs)
