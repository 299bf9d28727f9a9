-- Numbers in decimal. Assumes nothing.
use Rattle.std.proofs.Common.{◌≡◌, ℕ, ◌+◌, ◌/◌, ◌%◌, ◌^◌, ◌<◌, ◌≤◌, List, length, set, decimal, refl, ap, ◌∙◌, arith}
use Rattle.std.proofs.lemmas.Fmt.{decimal_step, decimal_digit, length-decimal-le}
use Rattle.std.proofs.lemmas.List.{length_push}
use Rattle.items.specs.Lines.{pasted}
use Rattle.items.proofs.Pasting.{pasted_one, pasted_back}

-- a number of 64 bits has at most twenty digits
pub few_digits : (n : ℕ) → n < 2 ^ 64 → length (decimal n) ≤ 20
few_digits n h = length-decimal-le 20 n (omega arith) (omega arith) h

-- a number from ten on has one digit more than its tenth part
pub length_decimal_step : (n : ℕ) → 10 ≤ n → n < 2 ^ 64 → length (decimal n) ≡ length (decimal (n / 10)) + 1
length_decimal_step n h k = ap length (decimal_step n h k) ∙ length_push (decimal (n / 10)) _

-- a number below ten has one digit
pub length_decimal_digit : (n : ℕ) → n < 10 → length (decimal n) ≡ 1
length_decimal_digit n h = ap length (decimal_digit n h)

-- the last digit may be written first
pub last_digit : (d : List ℕ) (at n k : ℕ) → 10 ≤ n → n < 2 ^ 64 → k + 1 ≡ length (decimal n) → pasted (set d (at + k) (48 + n % 10)) at (decimal (n / 10)) ≡ pasted d at (decimal n)
last_digit d at n k h f e =
    let here : k ≡ length (decimal (n / 10)) = omega (arith, length_decimal_step n h f) in
    rw (decimal_step n h f, here, pasted_back, pasted_one) refl
