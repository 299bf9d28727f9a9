-- Bits of numbers, and the number of a set. Assumes nothing.
use Rattle.std.proofs.Common.{◌≡◌, ℕ, zero, suc, ◌+◌, ◌^◌, ◌<◌, ◌≤◌, Bool, true, false, cond, not, ◌&&◌, ◌||◌, eqb, ltb, ◌⊎◌, refl, ap, ◌∙◌, inl, inr, ⊎_elim, add-zero, one-mul, arith, w32}
use native.Mathlib.Nat.{two-pow-succ}
use lib.Bits.{bit_and, bit_or, bit_xor, or_shifted_r}
use Rattle.std.specs.Int.{bit_not}
use Rattle.std.proofs.lemmas.Nat.Bits.{bit_at_and, bit_at_or, bit_at_xor, bit_at_not, bit_at-pow_same, bit_at-pow_other, bit_at_above, bit_at-lt, same_from_bits_below}
use Rattle.std.proofs.lemmas.Bool.{both_ways, cases_eq, cases_lt}
use Rattle.std.proofs.lemmas.Bool.Decides.{nat_tests}
use Rattle.boards.specs.BaySets.{bit, set_number}

-- the bits of `&`, `|` and `^`
pub bit_and_lem : (s t k : ℕ) → bit (bit_and s t) k ≡ (bit s k && bit t k)
bit_and_lem s t k = let e = bit_at_and s t k in let p = bit_at-lt s k in let q = bit_at-lt t k in grind (arith, nat_tests)

pub bit_or_lem : (s t k : ℕ) → bit (bit_or s t) k ≡ (bit s k || bit t k)
bit_or_lem s t k = let e = bit_at_or s t k in let p = bit_at-lt s k in let q = bit_at-lt t k in grind (arith, nat_tests)

pub bit_xor_lem : (s t k : ℕ) → bit (bit_xor s t) k ≡ cond (bit s k) (not (bit t k)) (bit t k)
bit_xor_lem s t k = let e = bit_at_xor s t k in let p = bit_at-lt s k in let q = bit_at-lt t k in grind (arith, nat_tests)

-- no bit of a number stands beyond its width
pub bit_beyond : (n s k : ℕ) → s < 2 ^ n → n ≤ k → bit s k ≡ false
bit_beyond n s k h le = ap (λ d. eqb d 1) (bit_at_above s n k h le)

pub bit_within : (n s k : ℕ) → s < 2 ^ n → bit s k ≡ true → k < n
bit_within n s k h e =
    ⊎_elim (λ l. l) (λ l. absurd (both_ways (bit s k) (bit_beyond n s k h l) e)) (cases_lt k n)

pub bit_zero : (k : ℕ) → bit 0 k ≡ false
bit_zero k = bit_beyond 0 0 k (omega arith) (omega arith)

-- the bits of s that are not bits of t
pub bit_clear : (s t k : ℕ) → bit (bit_xor s (bit_and s t)) k ≡ (not (bit t k) && bit s k)
bit_clear s t k = let e = bit_xor_lem s (bit_and s t) k in let both = bit_and_lem s t k in grind (arith, nat_tests)

-- the same, as a word keeps the bits that another word has not
pub bit_clear_word : (s t k : ℕ) → s < 2 ^ 32 → t < 2 ^ 32 → bit (bit_and s (bit_not w32 t)) k ≡ (not (bit t k) && bit s k)
bit_clear_word s t k hs ht = at (cases_lt k 32)
  where
    at : (k < 32) ⊎ (32 ≤ k) → bit (bit_and s (bit_not w32 t)) k ≡ (not (bit t k) && bit s k)
    at (inl low) = let e = bit_at_not w32 t k ht low in let q = bit_at-lt t k in bit_and_lem s (bit_not w32 t) k ∙ grind (arith, nat_tests)
    at (inr high) = let e = bit_beyond 32 s k hs high in bit_and_lem s (bit_not w32 t) k ∙ grind (arith, nat_tests)

pub bit_power : (j k : ℕ) → bit (2 ^ j) k ≡ eqb k j
bit_power j k = at (cases_eq k j)
  where
    at : (k ≡ j) ⊎ (k ≡ j → ⊥) → bit (2 ^ j) k ≡ eqb k j
    at (inl e) = rw e (let here = bit_at-pow_same j in grind (arith, nat_tests))
    at (inr apart) = let other = bit_at-pow_other j k apart in grind (arith, nat_tests)

-- a power above a number is one more bit
bit_above : (n s k : ℕ) → s < 2 ^ n → bit (s + 2 ^ n) k ≡ (bit s k || eqb k n)
bit_above n s k h =
    let e : bit_or s (2 ^ n) ≡ 2 ^ n + s = rw one-mul at (or_shifted_r 1 n s h) in
    let o : s + 2 ^ n ≡ bit_or s (2 ^ n) = omega arith in
    ap (λ x. bit x k) o ∙ bit_or_lem s (2 ^ n) k ∙ ap (λ x. bit s k || x) (bit_power n k)

pub number_below : (f : ℕ → Bool) (n : ℕ) → set_number f n < 2 ^ n
unfolding set_number
number_below f zero = omega arith
number_below f (suc n) = let h = number_below f n in let e = two-pow-succ n in grind arith

bit_number_more : (f : ℕ → Bool) (n k : ℕ) (b : Bool) → f n ≡ b → bit (set_number f n) k ≡ (ltb k n && f k) → bit (set_number f n + cond b (2 ^ n) 0) k ≡ (ltb k (suc n) && f k)
bit_number_more f n k true e below = bit_above n (set_number f n) k (number_below f n) ∙ grind (arith, nat_tests)
bit_number_more f n k false e below = rw add-zero (below ∙ grind (arith, nat_tests))

pub bit_number : (f : ℕ → Bool) (n k : ℕ) → bit (set_number f n) k ≡ (ltb k n && f k)
unfolding set_number
bit_number f zero k = bit_zero k ∙ grind (arith, nat_tests)
bit_number f (suc n) k = bit_number_more f n k (f n) refl (bit_number f n k)

-- a number is known by its bits
pub number_from_bits : (f : ℕ → Bool) (n s : ℕ) → s < 2 ^ n → ((k : ℕ) → k < n → bit s k ≡ f k) → s ≡ set_number f n
number_from_bits f n s h same =
    same_from_bits_below n s (set_number f n) h (number_below f n)
    (λ k l. let b = bit_number f n k in let q = same k l in let p = bit_at-lt s k in let r = bit_at-lt (set_number f n) k in grind (arith, nat_tests))

-- sets with the same members have the same number
pub number_same : (f g : ℕ → Bool) (n : ℕ) → ((k : ℕ) → k < n → f k ≡ g k) → set_number f n ≡ set_number g n
number_same f g n same =
    number_from_bits g n (set_number f n) (number_below f n)
    (λ k l. let b = bit_number f n k in let q = same k l in grind (arith, nat_tests))
