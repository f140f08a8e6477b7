-- Laws of the sum over an ISIN: worked out letter by letter it is the sum over the digits, whatever the text and its length; what a value adds, up to a
-- multiple of 10; and what a walk over the letters keeps, from the last to the first.
-- Assumes nothing.
use Prim.Native.Nat.{ℕ, ◌+◌, ◌-◌, ◌*◌, ◌/◌, ◌%◌, ◌<◌, ◌≤◌}
use mathlib.Core.Bool.{Bool, true, false, not, cond}
use mathlib.Core.List.{List, [], ◌∷◌, ◌++◌, reverse, reverse-append, append-nil, append_assoc}
use mathlib.Core.Path.{◌≡◌, refl, ap, sym, ◌∙◌}
use native.Mathlib.Omega.{arith}
use borrow.Author.Tests.{leb-true}
use lib.Dec.{leb, eqb}
use lib.ListN.{length, get_or, take}
use Rattle.frame.proofs.BoolLaws.{and_left, and_right}
use Rattle.text.specs.Class.{is_digit, is_capital, is_capital_or_digit}
use Rattle.text.specs.Bytes.{all}
use Rattle.text.proofs.ByteLaws.{digit_high}
use Rattle.identifier.specs.Isin.{letter_value, digits_of, digits, doubled, weighted, digit_sum, check_digit_right}
use Rattle.identifier.specs.Isin.{value_weight, turned, letters_from, letter_sum}

-- a digit is worth less than 10, a capital 55 less than its byte
digit_value : (b : ℕ) → is_digit b ≡ true → letter_value b < 10
unfolding letter_value
digit_value b e = rw e (omega (arith, digit_high b e))

pub capital_low : (b : ℕ) → is_capital b ≡ true → 65 ≤ b
capital_low b e = leb-true _ _ (and_left _ _ e)

pub capital_high : (b : ℕ) → is_capital b ≡ true → b ≤ 90
capital_high b e = leb-true _ _ (and_right (leb 65 b) _ e)

pub capital_value : (b : ℕ) → is_capital b ≡ true → letter_value b ≡ b - 55
unfolding letter_value
capital_value b e = of (is_digit b) refl
  where
    of : (d : Bool) → is_digit b ≡ d → letter_value b ≡ b - 55
    of true q = omega (arith, capital_low b e, digit_high b q)
    of false q = rw q (omega (arith, capital_low b e))

-- a value of one digit adds this digit, doubled or not
one_digit : (f : Bool) (v : ℕ) → v < 10 → value_weight f v ≡ cond f (doubled v) v
unfolding value_weight
one_digit f v h =
    let last : v % 10 ≡ v = omega (arith, h) in
    let before : v / 10 ≡ 0 = omega (arith, h) in
    rw (last, before) (of f)
  where
    of : (g : Bool) → cond g (doubled v + 0) (v + doubled 0) ≡ cond g (doubled v) v
    of true = omega arith
    of false = omega arith

-- one of two digits adds both of them, one doubled
two_digits : (f : Bool) (v : ℕ) (ds : List ℕ) → weighted f (v % 10 ∷ v / 10 ∷ ds) ≡ value_weight f v + weighted f ds
unfolding weighted value_weight
two_digits true v ds = omega arith
two_digits false v ds = omega arith

-- the digits of a letter, the last of them first, add what its value adds, and turn the flag as it does
weighted_letter : (f : Bool) (b : ℕ) (ds : List ℕ)
    → weighted f (reverse (digits_of b) ++ ds) ≡ value_weight f (letter_value b) + weighted (turned f b) ds
unfolding digits_of weighted turned
weighted_letter f b ds = of (is_digit b) refl
  where
    of : (d : Bool) → is_digit b ≡ d → weighted f (reverse (digits_of b) ++ ds) ≡ value_weight f (letter_value b) + weighted (turned f b) ds
    of true e = rw (e, one_digit f _ (digit_value b e)) refl
    of false e = rw e (two_digits f (letter_value b) ds)

-- the digits of letters that stand from right to left
unfoldable digits_back : List ℕ → List ℕ
digits_back [] = []
digits_back (b ∷ bs) = reverse (digits_of b) ++ digits_back bs

back_append : (s t : List ℕ) → digits_back (s ++ t) ≡ digits_back s ++ digits_back t
unfolding digits_back
back_append [] t = refl
back_append (b ∷ s) t =
    ap (λ (l : List ℕ). reverse (digits_of b) ++ l) (back_append s t) ∙ sym (append_assoc (reverse (digits_of b)) (digits_back s) (digits_back t))

back_reverse : (s : List ℕ) → digits_back (reverse s) ≡ reverse (digits s)
unfolding digits_back digits
back_reverse [] = refl
back_reverse (b ∷ s) =
    ap digits_back (reverse-append (b ∷ []) s)
    ∙ back_append (reverse s) (b ∷ [])
    ∙ rw (back_reverse s, append-nil (reverse (digits_of b))) (sym (reverse-append (digits_of b) (digits s)))

letters_weighted : (f : Bool) (s : List ℕ) → letters_from f s ≡ weighted f (digits_back s)
unfolding letters_from weighted digits_back
letters_weighted f [] = refl
letters_weighted f (b ∷ s) =
    ap (λ (n : ℕ). value_weight f (letter_value b) + n) (letters_weighted (turned f b) s) ∙ sym (weighted_letter f b (digits_back s))

-- The sum letter by letter is document 01's sum over the digits, for every text
pub letter_sum_lem : (s : List ℕ) → letter_sum s ≡ digit_sum s
unfolding letter_sum digit_sum
letter_sum_lem s = letters_weighted true (reverse s) ∙ ap (weighted true) (back_reverse s)

-- and so, as document 02 asks it of Item 3, they agree modulo 10 for capitals and digits of any number
pub letter_sum_agrees : (s : List ℕ) → all is_capital_or_digit s ≡ true → letter_sum s % 10 ≡ digit_sum s % 10
letter_sum_agrees s h = ap (λ (n : ℕ). n % 10) (letter_sum_lem s)

-- a digit doubled, and its digits added: less than its double by nine for each ten
doubled_nines : (d : ℕ) → doubled d + 9 * (2 * d / 10) ≡ 2 * d
doubled_nines d = omega arith

up_to_tens : {m : ℕ} (n k : ℕ) → m ≡ n + 10 * k → m % 10 ≡ n % 10
up_to_tens n k e = rw e (omega arith)

-- what a value adds, up to a multiple of 10
pub weight_doubled : (v : ℕ) → (2 * v + (v + 5) / 10) % 10 ≡ value_weight true v % 10
unfolding value_weight
weight_doubled v = up_to_tens _ (2 * (v / 10) + 2 * (v % 10) / 10) (omega (arith, tens, doubled_nines (v % 10)))
  where
    one : 2 * (v % 10) / 10 ≤ 1
    one = omega arith

    tens : (v + 5) / 10 ≡ v / 10 + 2 * (v % 10) / 10
    tens = omega (arith, one)

pub weight_single : (v : ℕ) → (v + 2 * (v / 10) + v / 50) % 10 ≡ value_weight false v % 10
unfolding value_weight
weight_single v = up_to_tens _ (v / 10 + 2 * (v / 10) / 10) (omega (arith, fifties, doubled_nines (v / 10)))
  where
    below : v / 10 ≤ 5 * (2 * (v / 10) / 10) + 4
    below = omega arith

    fifties : v / 50 ≡ 2 * (v / 10) / 10
    fifties = omega (arith, below)

-- and the value of a capital b, which is b - 55 and under 40
pub capital_doubled : (b : ℕ) → 65 ≤ b → (2 * (b - 55) + b / 10 - 5) % 10 ≡ value_weight true (b - 55) % 10
capital_doubled b h = let same : 2 * (b - 55) + b / 10 - 5 ≡ 2 * (b - 55) + (b - 55 + 5) / 10 = omega (arith, h) in rw same (weight_doubled (b - 55))

pub capital_single : (b : ℕ) → b ≤ 90 → (b - 55) % 10 + 2 * ((b - 55) / 10) ≡ value_weight false (b - 55)
unfolding value_weight
capital_single b h = omega (arith, h)

-- the flag behind a byte, d saying whether that is a digit
pub turned_by : (f : Bool) (b : ℕ) {r d : Bool} → r ≡ is_digit b → r ≡ d → cond d (not f) f ≡ turned f b
unfolding turned
turned_by f b e q = rw (← e, q) refl

-- two numbers that end alike still do with the same added to both
ends_alike : (m n t : ℕ) → m % 10 ≡ n % 10 → (m + t) % 10 ≡ (n + t) % 10
ends_alike m n t e = last m ∙ rw e (sym (last n))
  where
    last : (k : ℕ) → (k + t) % 10 ≡ (k % 10 + t) % 10
    last k = omega arith

-- what the walk keeps, n being its total: the sum over the letters that are left, added to n, has the last digit of the whole
kept : (n m w t : ℕ) → m % 10 ≡ w % 10 → (n + (w + t)) % 10 ≡ ((n + m) % 1000 + t) % 10
kept n m w t e =
    let first : n + (w + t) ≡ w + (n + t) = omega arith in
    let then : m + (n + t) ≡ n + m + t = omega arith in
    rw first (ends_alike w m (n + t) (sym e) ∙ rw then (ends_alike (n + m) ((n + m) % 1000) t (omega arith)))

pub sum_start : (s left : List ℕ) → left ≡ s → letter_sum s % 10 ≡ (0 + letters_from true (reverse left)) % 10
unfolding letter_sum
sum_start s left e = rw e (omega arith)

pub sum_more : (s left rest : List ℕ) (f : Bool) (b n m : ℕ) {r : ℕ} {g : Bool} → letter_sum s % 10 ≡ (n + letters_from f (reverse left)) % 10
    → left ≡ rest ++ (b ∷ []) → m % 10 ≡ value_weight f (letter_value b) % 10 → r ≡ (n + m) % 1000 → g ≡ turned f b
    → letter_sum s % 10 ≡ (r + letters_from g (reverse rest)) % 10
unfolding letters_from
sum_more s left rest f b n m e last weight k flag = e ∙ rw (last, reverse-append, k, flag) (kept n m _ _ weight)

pub sum_end : (s left : List ℕ) (f : Bool) (n : ℕ) → letter_sum s % 10 ≡ (n + letters_from f (reverse left)) % 10 → length left ≡ 0
    → n % 10 ≡ letter_sum s % 10
unfolding letters_from
sum_end s [] f n e h = omega (arith, e)
sum_end s (b ∷ left) f n e h = absurd (omega arith)

-- the check digit by the last digit of the sum
pub check_digit : (s : List ℕ) {n v b : ℕ} {t : List ℕ} → n ≡ letter_sum t % 10 → t ≡ take 11 s → v ≡ letter_value b → b ≡ get_or s 11 0
    → eqb ((n + v) % 10) 0 ≡ check_digit_right s
unfolding check_digit_right
check_digit s {n} p q r e =
    let last : n % 10 ≡ digit_sum (take 11 s) % 10 = rw (p, q, letter_sum_lem) (omega arith) in
    ap (λ (k : ℕ). eqb k 0) (ends_alike n (digit_sum (take 11 s)) _ last) ∙ rw (r, e) refl

-- what the proofs of the functions cite
pub ruleset weight_laws = (weight_doubled, weight_single)

pub ruleset capital_laws = (capital_doubled, capital_single)

pub ruleset letter_laws = (capital_low, capital_high, capital_value)
