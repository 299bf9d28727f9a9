-- How many numbers below a bound pass a test. Assumes nothing.
use Rattle.std.specs.Prelude.{◌≡◌, ℕ, zero, suc, ◌+◌, ◌<◌, ◌≤◌, Bool, true, false, cond, ◌⊎◌, ◌≢◌, refl}
use Rattle.std.proofs.Common.{inl, inr, arith}
use Rattle.std.proofs.lemmas.Bool.{cases_eq}

unfoldable pub passing : (ℕ → Bool) → ℕ → ℕ
passing f zero = 0
passing f (suc n) = passing f n + cond (f n) 1 0

pub passing_le : (f : ℕ → Bool) (n : ℕ) → passing f n ≤ n
unfolding passing
passing_le f zero = omega arith
passing_le f (suc n) = let h = passing_le f n in grind arith

pub passing_none : (f : ℕ → Bool) (n : ℕ) → ((k : ℕ) → f k ≡ false) → passing f n ≡ 0
unfolding passing
passing_none f zero none = refl
passing_none f (suc n) none = let h = passing_none f n none in let e = none n in grind arith

passing_same : (f g : ℕ → Bool) (n : ℕ) → ((k : ℕ) → k < n → g k ≡ f k) → passing g n ≡ passing f n
unfolding passing
passing_same f g zero same = refl
passing_same f g (suc n) same =
    let h = passing_same f g n (λ k l. same k (omega arith)) in let e = same n (omega arith) in grind arith

-- one number more that passes
pub passing_more : (f g : ℕ → Bool) (x n : ℕ) → x < n → f x ≡ false → g x ≡ true → ((k : ℕ) → (k ≢ x) → g k ≡ f k) → passing g n ≡ passing f n + 1
unfolding passing
passing_more f g x zero l out held same = absurd (omega arith)
passing_more f g x (suc n) l out held same = at (passing_more f g x n) (cases_eq x n)
  where
    at : (x < n → f x ≡ false → g x ≡ true → ((k : ℕ) → (k ≢ x) → g k ≡ f k) → passing g n ≡ passing f n + 1) → (x ≡ n) ⊎ (x ≢ n) → passing g n + cond (g n) 1 0 ≡ passing f n + cond (f n) 1 0 + 1
    at rest (inl e) =
        let below = passing_same f g n (λ k m. same k (λ q. omega arith)) in
        let fn : f n ≡ false = rw e at out in let gn : g n ≡ true = rw e at held in grind arith
    at rest (inr ne) =
        let below = rest (omega arith) out held same in let e = same n (λ q. ne (rw q)) in grind arith
