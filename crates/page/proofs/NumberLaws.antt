-- Laws of numbers as text.
-- Assumes nothing.
use Prim.Native.Nat.{ℕ, zero, suc, ◌-◌, ◌/◌, ◌^◌, ◌≤◌, ◌<◌}
use native.Mathlib.Decide.{dec_lt}
use native.Mathlib.Nat.{pow-le-pow_right, le_trans}
use native.Mathlib.Omega.{arith}
use mathlib.Core.Bool.{false, false≢true}
use mathlib.Core.List.{List}
use mathlib.Core.Path.{◌≡◌, refl, ap, sym, ◌∙◌}
use borrow.Author.Tests.{lt-ltb, le-ltb}
use lib.Dec.{ltb, lit<}
use lib.ListN.{length, length-append}
use Rattle.frame.specs.Every.{least}
use Rattle.frame.proofs.LeastLaws.{least_le, least_is, least_none, least_below}
use Rattle.io.specs.Digits.{last_digits, IsDigitCount}
use Rattle.page.specs.Number.{digit_count, number_text, code_text}

-- the fewest digits that hold a number are as many as it has
module _ (n k : ℕ) (fewest : IsDigitCount 10 1 n (suc k)) (small : n < 10 ^ 20) where
  above : (j : ℕ) → j < k → 10 ^ suc j ≤ n
  above j h =
      let e : suc j ≤ suc k - 1 = omega arith in le_trans (pow-le-pow_right (lit< tt) e) (fewest.2 (omega arith))

  few : (j : ℕ) → j < k → ltb n (10 ^ suc j) ≡ false
  few j h = le-ltb n (10 ^ suc j) (above j h)

  counted : Dec (k < 19) → Dec (19 < k) → suc k ≡ digit_count n
  unfolding digit_count
  counted (yes lt) _ = ap suc (sym (least_is 19 (λ j. ltb n (10 ^ suc j)) k lt few (lt-ltb _ _ fewest.1)))
  counted (no ge) (yes gt) = absurd (omega (arith, above 19 gt))
  counted (no ge) (no le) =
      let e : k ≡ 19 = omega arith in ap suc (e ∙ sym (least_none 19 (λ j. ltb n (10 ^ suc j)) (λ j h. few j (omega arith))))

pub number_digits : (n k : ℕ) {s : List ℕ} → IsDigitCount 10 1 n k → n < 10 ^ 20 → s ≡ last_digits 10 k n → s ≡ number_text n
unfolding number_text
number_digits n zero fewest small e = absurd (omega (arith, fewest.0))
number_digits n (suc k) fewest small e =
    e ∙ ap (λ (m : ℕ). last_digits 10 m n) (counted n k fewest small (dec_lt k 19) (dec_lt 19 k))

-- how long they are
digits_length : (k n : ℕ) → length (last_digits 10 k n) ≡ k
digits_length zero n = refl
digits_length (suc k) n = length-append (last_digits 10 k (n / 10)) _ ∙ rw (digits_length k (n / 10)) (omega arith)

pub code_length : (n : ℕ) → length (code_text n) ≡ 4
unfolding code_text
code_length n = digits_length 4 n

pub number_most : (n : ℕ) → length (number_text n) ≤ 20
unfolding number_text digit_count
number_most n = rw (digits_length (digit_count n) n) (omega (arith, least_le 19 (λ k. ltb n (10 ^ suc k))))

pub number_short : (n : ℕ) → n < 10000 → length (number_text n) ≤ 4
unfolding number_text digit_count
number_short n h = rw (digits_length (suc (least 19 (λ k. ltb n (10 ^ suc k)))) n) (go (least 19 (λ k. ltb n (10 ^ suc k))) refl)
  where
    go : (m : ℕ) → least 19 (λ k. ltb n (10 ^ suc k)) ≡ m → suc m ≤ 4
    go zero e = omega arith
    go (suc zero) e = omega arith
    go (suc (suc zero)) e = omega arith
    go (suc (suc (suc zero))) e = omega arith
    go (suc (suc (suc (suc m)))) e =
        absurd (false≢true (sym (least_below 19 (λ k. ltb n (10 ^ suc k)) 3 (omega (arith, e))) ∙ lt-ltb n 10000 h))
