-- What the reader tells of zero (document 02, Item 4): by the value, and by the digits.
-- Assumes nothing.
use Prim.Native.Nat.{ℕ, zero, suc, ◌+◌, ◌-◌, ◌*◌, ◌^◌, ◌<◌, ◌≤◌}
use Prim.Native.Char.{code}
use mathlib.Core.Bool.{true, false, ◌&&◌}
use mathlib.Core.List.{List, [], ◌∷◌}
use mathlib.Core.Logic.{◌≢◌}
use mathlib.Core.Path.{◌≡◌, refl, sym, ◌∙◌}
use native.Mathlib.Nat.{zero-add, suc-add, zero-mul, mul-pos, one-le-pow}
use native.Mathlib.Decide.{ℕ_discrete}
use native.Mathlib.Omega.{arith}
use borrow.Author.Tests.{eqb-false, ne_eqb}
use lib.Dec.{lit<, eqb, eqb-suc-zero}
use lib.ListN.{length, take, drop}
use Rattle.frame.proofs.BoolLaws.{and_left, and_right, and_true, and_assoc}
use Rattle.text.specs.Class.{is_digit}
use Rattle.text.specs.Bytes.{all, position_of}
use Rattle.text.proofs.ByteLaws.{all_around, digit_low}
use Rattle.decimal.specs.Decimal.{digits_value_after, digits_value, digits_up_to, decimal_of, every_digit_zero}
use Rattle.decimal.specs.declared.Amount.{Amount}
use Rattle.std.specs.Prelude.{Some}
use Rattle.decimal.proofs.DecimalLaws.{both_value, by_form, upto_digits}

-- The reader tells of every value whether it is zero.
pub zero_told : (m n : ℕ) (s : List ℕ) {a : Amount} → decimal_of m n s ≡ Some a → a.zero ≡ eqb a.value 0
zero_told m n s = by_form m n s (λ b. b.zero ≡ eqb b.value 0) (λ e. refl) (λ k at h p q. refl)

-- a value that is told not to be zero is above it
pub above_zero : (m n : ℕ) (s : List ℕ) {a : Amount} → decimal_of m n s ≡ Some a → a.zero ≡ false → 0 < a.value
above_zero m n s {a} e told = let some : a.value ≢ 0 = eqb-false _ _ (sym (zero_told m n s e) ∙ told) in omega arith

-- when sums and multiples are zero
sum_zero : (x y : ℕ) → eqb (x + y) 0 ≡ eqb x 0 && eqb y 0
sum_zero zero y = rw zero-add refl
sum_zero (suc x) y = rw (suc-add, eqb-suc-zero (x + y), eqb-suc-zero x) refl

times_zero : (x k : ℕ) → 0 < k → eqb (x * k) 0 ≡ eqb x 0
times_zero zero k h = rw zero-mul refl
times_zero (suc x) k h =
    let some : 0 < suc x * k = mul-pos (omega arith) h in
    rw (ne_eqb (suc x * k) 0 (omega arith), eqb-suc-zero) refl

digit_zero : (b : ℕ) → is_digit b ≡ true → eqb (b - 48) 0 ≡ eqb b 48
digit_zero b e = go (ℕ_discrete b 48)
  where
    low : 48 ≤ b
    low = digit_low b e

    go : Dec (b ≡ 48) → eqb (b - 48) 0 ≡ eqb b 48
    go (yes q) = rw q refl
    go (no n) = let above : 48 < b = omega (arith, low) in rw (ne_eqb (b - 48) 0 (omega arith), ne_eqb b 48 n) refl

-- digits write zero behind a number where that is zero and each of them is 0
digits_zero : (v : ℕ) (s : List ℕ) → all is_digit s ≡ true → eqb (digits_value_after v s) 0 ≡ eqb v 0 && every_digit_zero s
unfolding digits_value_after all every_digit_zero
digits_zero v [] e = sym (and_true (eqb v 0))
digits_zero v (b ∷ s) e =
    let digit : is_digit b ≡ true = and_left _ _ e in
    digits_zero (v * 10 + (b - 48)) s (and_right (is_digit b) _ e)
    ∙ rw (sum_zero, times_zero v 10 (lit< tt), digit_zero b digit, digit) (sym (and_assoc (eqb v 0) _ _))

-- and so with zeros behind them
scaled_zero : (s : List ℕ) (n : ℕ) → all is_digit s ≡ true → eqb (digits_value s * 10 ^ n) 0 ≡ every_digit_zero s
scaled_zero s n e = times_zero (digits_value s) (10 ^ n) (one-le-pow n 10 (lit< tt)) ∙ digits_zero 0 s e

-- the digits of a text are those on both sides of its comma
comma_sides : (k : ℕ) (s : List ℕ) → k ≡ position_of (code ",") s → k < length s
    → every_digit_zero (take k s) && every_digit_zero (drop (k + 1) s) ≡ every_digit_zero s
unfolding every_digit_zero
comma_sides k s at h = rw at (all_around _ (code ",") refl s (rw at at h))

-- The reader tells zero exactly where every digit is 0.
pub zero_digits : (m n : ℕ) (s : List ℕ) {a : Amount} → decimal_of m n s ≡ Some a → a.zero ≡ every_digit_zero s
zero_digits m n s = by_form m n s (λ b. b.zero ≡ every_digit_zero s) (λ e. scaled_zero s n (upto_digits m s e)) both
  where
    both : (k : ℕ) → k ≡ position_of (code ",") s → k < length s → digits_up_to m (take k s) ≡ true → digits_up_to n (drop (k + 1) s) ≡ true
        → eqb (both_value n (take k s) (drop (k + 1) s)) 0 ≡ every_digit_zero s
    both k at h p q =
        let f : List ℕ = drop (k + 1) s in
        sum_zero (digits_value (take k s) * 10 ^ n) (digits_value f * 10 ^ (n - length f))
        ∙ (λ i. scaled_zero (take k s) n (upto_digits m _ p) i && scaled_zero f (n - length f) (upto_digits n _ q) i)
        ∙ comma_sides k s at h
