-- Tests of field lists. Assumes nothing.
use Rattle.std.proofs.Common.{◌≡◌, ℕ, Bool, List, [], ◌∷◌, refl, arith}
use Rattle.std.proofs.lemmas.Bool.Decides.{nat_tests}
use Rattle.items.specs.Kinds.{same_fields, of_pairs}

-- equality says the same in either order
pub same_fields_comm : (a b : List ℕ) → same_fields a b ≡ same_fields b a
same_fields_comm [] [] = refl
same_fields_comm [] (y ∷ ys) = refl
same_fields_comm (x ∷ xs) [] = refl
same_fields_comm (x ∷ xs) (y ∷ ys) = let rest = same_fields_comm xs ys in grind (arith, nat_tests)

-- a test of two pairs that says the same in either order does so on any lists
pub of_pairs_comm : (f : ℕ → ℕ → ℕ → ℕ → Bool) → ((s l t m : ℕ) → f s l t m ≡ f t m s l) → (a b : List ℕ) → of_pairs f a b ≡ of_pairs f b a
of_pairs_comm f e [] [] = refl
of_pairs_comm f e [] (t ∷ []) = refl
of_pairs_comm f e [] (t ∷ m ∷ []) = refl
of_pairs_comm f e [] (t ∷ m ∷ y ∷ ys) = refl
of_pairs_comm f e (s ∷ []) [] = refl
of_pairs_comm f e (s ∷ []) (t ∷ []) = refl
of_pairs_comm f e (s ∷ []) (t ∷ m ∷ []) = refl
of_pairs_comm f e (s ∷ []) (t ∷ m ∷ y ∷ ys) = refl
of_pairs_comm f e (s ∷ l ∷ []) [] = refl
of_pairs_comm f e (s ∷ l ∷ []) (t ∷ []) = refl
of_pairs_comm f e (s ∷ l ∷ []) (t ∷ m ∷ []) = e s l t m
of_pairs_comm f e (s ∷ l ∷ []) (t ∷ m ∷ y ∷ ys) = refl
of_pairs_comm f e (s ∷ l ∷ x ∷ xs) [] = refl
of_pairs_comm f e (s ∷ l ∷ x ∷ xs) (t ∷ []) = refl
of_pairs_comm f e (s ∷ l ∷ x ∷ xs) (t ∷ m ∷ []) = refl
of_pairs_comm f e (s ∷ l ∷ x ∷ xs) (t ∷ m ∷ y ∷ ys) = refl
