-- Fields and modes that are tested for sameness. Assumes nothing.
use Rattle.std.proofs.Common.{◌≡◌, ℕ, true, List, [], ◌∷◌, Decides, sym, refl, ◌∙◌, ap₂, arith}
use Rattle.std.proofs.lemmas.Bool.{eq-eqb, eqb-true, and_from, and_parts}
use Rattle.std.proofs.lemmas.Bool.Decides.{nat_tests}
use Rattle.items.proofs.FieldLists.{same_fields_comm}
use Rattle.items.specs.Kinds.{same_fields}
use Rattle.items.specs.Modes.{row_of}
use Rattle.items.specs.declared.mode.Mode.{Mode}
use Rattle.marks.specs.Marks.{same_mode, same_access}

pub fields_equal : (fs gs : List ℕ) → same_fields fs gs ≡ true → fs ≡ gs
fields_equal [] [] e = refl
fields_equal [] (y ∷ ys) e = absurd (grind arith)
fields_equal (x ∷ xs) [] e = absurd (grind arith)
fields_equal (x ∷ xs) (y ∷ ys) e =
    let parts = and_parts _ _ e in ap₂ (λ z zs. z ∷ zs) (eqb-true x y parts.0) (fields_equal xs ys parts.1)

pub fields_same : (fs : List ℕ) → same_fields fs fs ≡ true
fields_same [] = refl
fields_same (x ∷ xs) = and_from _ _ (eq-eqb x x refl) (fields_same xs)

pub mode_equal : (m n : Mode) → same_mode m n ≡ true → m ≡ n
mode_equal m n e = grind (arith, nat_tests)

-- the same access is one with equal fields and equal mode
module _ (fs : List ℕ) (m : Mode) where
  pub access_same : same_access fs m fs m ≡ true
  access_same = and_from _ _ (fields_same fs) (eq-eqb (row_of m) (row_of m) refl)

  pub access_equal : (gs : List ℕ) (n : Mode) → same_access fs m gs n ≡ true → (fs ≡ gs) × (m ≡ n)
  access_equal gs n e = let parts = and_parts _ _ e in (fields_equal fs gs parts.0, mode_equal m n parts.1)

  pub access_comm : (gs : List ℕ) (n : Mode) → same_access fs m gs n ≡ same_access gs n fs m
  access_comm gs n = let fields = same_fields_comm fs gs in grind (arith, nat_tests)

  pub access_decides : (gs : List ℕ) (n : Mode) → Decides (same_access fs m gs n) ((fs ≡ gs) × (m ≡ n))
  access_decides gs n = (
    access_equal gs n,
    λ e. sym (ap₂ (same_access fs m) e.0 e.1) ∙ access_same,
  )

  -- the same access is the same as the same others
  pub access_like : (gs : List ℕ) (n : Mode) → same_access fs m gs n ≡ true → (hs : List ℕ) (o : Mode) → same_access fs m hs o ≡ same_access gs n hs o
  access_like gs n e hs o = let same = access_equal gs n e in ap₂ (λ xs k. same_access xs k hs o) same.0 same.1
