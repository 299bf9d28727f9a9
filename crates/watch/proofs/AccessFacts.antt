-- The accesses that conflict with a new one, by their fields and modes. Assumes nothing.
use Rattle.std.proofs.Common.{◌≡◌, ℕ, Bool, true, false, cond, ◌&&◌, List, [], ◌∷◌, ◌++◌, sym, refl, ap, ◌∙◌, subst, ap₂, inl, inr}
use Rattle.std.proofs.lemmas.Bool.{cond-false}
use Rattle.items.specs.declared.mode.Mode.{Mode}
use Rattle.serial.specs.Lists.{Some}
use Rattle.serial.specs.Accesses.{Transaction}
use Rattle.serial.specs.Changes.{Made, MadeConflicting, kept}
use Rattle.serial.proofs.ListFacts.{some_map}
use Rattle.marks.proofs.SameLaws.{access_same, access_equal}
use Rattle.watch.specs.Histories.{Access, made_by, conflict}
use Rattle.watch.specs.Accounts.{is_access_to}

-- An element that has P, and that it stands in the list.
some_one : {A : Type 0} (P : A → Type 0) (xs : List A) → Some P xs → (x : A) × P x × Some (λ z. z ≡ x) xs
some_one P [] h = absurd h
some_one P (x ∷ xs) (inl p) = (x, p, inl refl)
some_one P (x ∷ xs) (inr h) = let (y, p, there) = some_one P xs h in (y, p, inr there)

-- One more at the end that is not kept.
pub kept_push : {A T : Type 0} (by : A → T) (set : T → Bool) (xs : List A) (y : A) → set (by y) ≡ false →
    kept by set (xs ++ (y ∷ [])) ≡ kept by set xs
kept_push by set [] y out = cond-false (set (by y)) (y ∷ []) [] out
kept_push by set (x ∷ xs) y out = ap (λ l. cond (set (by x)) (x ∷ l) l) (kept_push by set xs y out)

-- Two accesses overlap and conflict in whichever order they are named.
module _ (overlapping : List ℕ → List ℕ → Bool) (conflicting : Mode → Mode → Bool)
    (mutual-overlap : (fs gs : List ℕ) → overlapping fs gs ≡ overlapping gs fs)
    (mutual-conflict : (m n : Mode) → conflicting m n ≡ conflicting n m)
    (xs : List Access) (y : Access) where
  pub made_conflicting : (u : Transaction) → (u ≡ made_by y → ⊥) → (gs : List ℕ) (other : Mode) →
      (overlapping y.fields gs && conflicting y.mode other) ≡ true → Made made_by (is_access_to gs other) xs u →
      MadeConflicting made_by (conflict overlapping conflicting) y xs u
  made_conflicting u differ gs other against made =
      some_map _ _
      (λ x (e, same).
      let (fields, mode) = access_equal x.fields x.mode gs other same in (
        e,
        (
          λ own. differ (sym e ∙ own),
          ap₂ (λ fs m. overlapping fs y.fields && conflicting m y.mode) fields mode
              ∙ ap₂ ◌&&◌ (mutual-overlap gs y.fields) (mutual-conflict other y.mode) ∙ against,
        ),
      ))
      xs made

  pub conflicting_made : (u : Transaction) → MadeConflicting made_by (conflict overlapping conflicting) y xs u →
      (gs : List ℕ) × (other : Mode) × ((overlapping y.fields gs && conflicting y.mode other) ≡ true) ×
      Made made_by (is_access_to gs other) xs u × (u ≡ made_by y → ⊥)
  conflicting_made u met =
      let (x, (e, (differ, against)), there) = some_one _ xs met in (
        x.fields,
        x.mode,
        ap₂ ◌&&◌ (mutual-overlap y.fields x.fields) (mutual-conflict y.mode x.mode) ∙ against,
        some_map _ _ (λ z here. (ap made_by here ∙ e, subst (λ w. is_access_to x.fields x.mode w ≡ true) (sym here) (access_same x.fields x.mode))) xs there,
        λ own. differ (e ∙ own),
      )
