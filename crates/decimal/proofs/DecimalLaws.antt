-- Laws of the numbers that digits write, and the cases of the form Nm,n.
-- Assumes nothing.
use Prim.Native.Nat.{ℕ, suc, ◌+◌, ◌-◌, ◌*◌, ◌^◌, ◌<◌, ◌≤◌}
use Prim.Native.Char.{code}
use mathlib.Core.Bool.{Bool, true, false, ◌&&◌, cond, false≢true}
use mathlib.Core.List.{List, [], ◌∷◌}
use mathlib.Core.Path.{◌≡◌, refl, sym, ◌∙◌}
use native.Mathlib.Nat.{zero-add, mul-lt-mul_of_pos_right, one-le-pow, add-sub_of_le, add-zero, add-suc, suc-add}
use native.Mathlib.Numerals.{add-one}
use native.Mathlib.Omega.{arith}
use lib.Dec.{lit<, leb, ltb}
use borrow.Author.Tests.{leb-true, ltb-true}
use lib.Arith.{digits_lt}
use lib.Pow.{pow-add}
use lib.ListN.{length, get_or, take, drop, drop_of_length-le}
use lib.Seq.{drop-cons}
use Rattle.text.specs.Class.{is_digit}
use Rattle.text.specs.Bytes.{all, position_of}
use Rattle.frame.proofs.BoolLaws.{and_left, and_right}
use Rattle.text.proofs.ByteLaws.{digit_high, all_get}
use Rattle.text.proofs.NumberLaws.{digit_more, below_power}
use Rattle.decimal.specs.Decimal.{digits_value_after, digits_value, digits_up_to, amount_of, whole_only, whole_and_part, decimal_at, decimal_of, value_of}
use Rattle.decimal.specs.declared.Amount.{Amount}
use Rattle.std.specs.Prelude.{Option, Some, None}

-- a number of up to nineteen digits fits a word; and so does one of fewer with a digit more
pub fits_word : {x i : ℕ} → x < 10 ^ i → i ≤ 19 → x < 2 ^ 64
fits_word h k = omega (arith, below_power 9 {n = 19} h k)

pub more_fits : (v i : ℕ) {d : ℕ} → v < 10 ^ i → i < 19 → d < 10 → v * 10 + d < 2 ^ 64
more_fits v i {d} h l k = fits_word (digit_more 10 v d i h k) (rw add-one l)

-- what a loop over the digits knows
module _ (s : List ℕ) (v i : ℕ) (e : digits_value s ≡ digits_value_after v (drop i s)) where
  pub number_go : {d : ℕ} → i < length s → d ≡ get_or s i 0 - 48 → digits_value s ≡ digits_value_after (v * 10 + d) (drop (i + 1) s)
  unfolding digits_value_after
  number_go h q = e ∙ rw (add-one, drop-cons s i 0, q) refl

  pub number_end : length s ≤ i → v ≡ digits_value s
  unfolding digits_value_after
  number_end h = sym (e ∙ rw (drop_of_length-le s h) refl)

pub number_below : (s : List ℕ) (v k : ℕ) → v < 10 ^ k → all is_digit s ≡ true → digits_value_after v s < 10 ^ (k + length s)
unfolding digits_value_after all
number_below [] v k h e = rw add-zero h
number_below (b ∷ bs) v k h e =
    let p = digit_high b (and_left _ _ e) in
    let r = number_below bs (v * 10 + (b - 48)) (suc k) (rw add-one at (digit_more 10 v (b - 48) k h (omega (arith, p)))) (and_right (is_digit b) _ e) in
    rw (add-suc, ← suc-add) r

-- 1 to k digits are digits, and at most k
pub upto_digits : (k : ℕ) (s : List ℕ) → digits_up_to k s ≡ true → all is_digit s ≡ true
unfolding digits_up_to
upto_digits k s e = and_right (leb 1 (length s) && leb (length s) k) _ e

pub upto_length : (k : ℕ) (s : List ℕ) → digits_up_to k s ≡ true → length s ≤ k
unfolding digits_up_to
upto_length k s e = leb-true _ _ (and_right (leb 1 (length s)) _ (and_left _ _ e))

-- up to nineteen digits, zeros at their end included, fit a word
pub scaled_below : (s : List ℕ) (n : ℕ) → all is_digit s ≡ true → digits_value s * 10 ^ n < 10 ^ (length s + n)
scaled_below s n e =
    let p : digits_value s < 10 ^ (0 + length s) = number_below s 0 0 (lit< tt) e in
    rw pow-add (mul-lt-mul_of_pos_right (rw zero-add at p) (one-le-pow n 10 (lit< tt)))

-- the whole digits and those after the comma
abbrev pub both_value : ℕ → List ℕ → List ℕ → ℕ
both_value n w f = digits_value w * 10 ^ n + digits_value f * 10 ^ (n - length f)

pub both_below : (w f : List ℕ) (n : ℕ) → all is_digit w ≡ true → all is_digit f ≡ true → length f ≤ n → both_value n w f < 10 ^ (length w + n)
both_below w f n e g l =
    let p : digits_value w < 10 ^ (0 + length w) = number_below w 0 0 (lit< tt) e in
    let q : digits_value f * 10 ^ (n - length f) < 10 ^ (length f + (n - length f)) = scaled_below f (n - length f) g in
    rw pow-add (digits_lt (rw zero-add at p) (rw (add-sub_of_le l) at q))

-- so a word holds them
pub scaled_fits : (s : List ℕ) (n : ℕ) → all is_digit s ≡ true → length s + n ≤ 19 → digits_value s * 10 ^ n < 2 ^ 64
scaled_fits s n e h = fits_word (scaled_below s n e) h

pub both_fits : (w f : List ℕ) (n : ℕ) → all is_digit w ≡ true → all is_digit f ≡ true → length f ≤ n → length w + n ≤ 19 → both_value n w f < 2 ^ 64
both_fits w f n e g l h = fits_word (both_below w f n e g l) h

-- what the proofs of the functions cite
pub ruleset digit_laws = (number_go, number_end, all_get, digit_more)

pub ruleset reading_laws = (upto_length, upto_digits, scaled_fits, both_fits)

-- what is read where a test passes
when_passed : (P : Amount → Type 0) (b : Bool) {x : ℕ} {a : Amount} → (b ≡ true → P (amount_of x)) → cond b (Some (amount_of x)) None ≡ Some a → P a
when_passed P true {x} {a} h e = let q : amount_of x ≡ a = cc e in rw q at (h refl)
when_passed P false h e = let q : ◌≡◌ {A = ℕ} 0 1 = cc e in absurd (omega arith)

-- what holds of digits, and of digits with a comma between them, holds of all that is read as Nm,n
pub by_form : (m n : ℕ) (s : List ℕ) (P : Amount → Type 0) → (digits_up_to m s ≡ true → P (amount_of (digits_value s * 10 ^ n)))
    → ((k : ℕ) → k ≡ position_of (code ",") s → k < length s → digits_up_to m (take k s) ≡ true → digits_up_to n (drop (k + 1) s) ≡ true
    → P (amount_of (both_value n (take k s) (drop (k + 1) s))))
    → {a : Amount} → decimal_of m n s ≡ Some a → P a
unfolding decimal_of decimal_at whole_only whole_and_part
by_form m n s P whole both {a} = go (leb (m + n) 19) (ltb k (length s)) refl
  where
    k : ℕ
    k = position_of (code ",") s

    w : Bool
    w = digits_up_to m (take k s)

    go : (fits comma : Bool) → ltb k (length s) ≡ comma
        → cond fits (cond comma (whole_and_part m n (take k s) (drop (k + 1) s)) (whole_only m n s)) None ≡ Some a → P a
    go true true e = when_passed P (w && digits_up_to n (drop (k + 1) s)) (λ t. both k refl (ltb-true _ _ e) (and_left w _ t) (and_right w _ t))
    go true false e = when_passed P (digits_up_to m s) whole
    go false comma e = when_passed P false {x = 0} (λ t. absurd (false≢true t))

-- a value of Nm,n is below 10 ^ (m + n)
digits_below : (m n k : ℕ) {x : ℕ} → x < 10 ^ (k + n) → k ≤ m → x < 10 ^ (m + n)
digits_below m n k h l = below_power 9 h (omega arith)

pub value_below : (m n : ℕ) (s : List ℕ) → value_of (decimal_of m n s) < 10 ^ (m + n)
value_below m n s = go (decimal_of m n s) refl
  where
    go : (d : Option Amount) → decimal_of m n s ≡ d → value_of d < 10 ^ (m + n)
    go (Some a) e =
        by_form m n s (λ b. b.value < 10 ^ (m + n)) (λ e. digits_below m n (length s) (scaled_below s n (upto_digits m s e)) (upto_length m s e))
        (λ k at h p q.
        digits_below m n (length (take k s)) (both_below (take k s) _ n (upto_digits m _ p) (upto_digits n _ q) (upto_length n _ q)) (upto_length m _ p)) e
    go None e = one-le-pow (m + n) 10 (lit< tt)
