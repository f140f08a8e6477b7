-- "Nm,n" of document 01: 1 to m digits, then nothing or a comma and 1 to n digits; zeros count as digits. The reader tells its value and, by document
-- 02, Item 4, whether that is zero.
-- Assumes nothing.
use Rattle.std.specs.Prelude.{ℕ, ◌+◌, ◌-◌, ◌*◌, ◌^◌, Bool, false, ◌&&◌, ◌||◌, not, cond, List, [], ◌∷◌, leb, ltb, eqb, length, take, drop, Option, Some, None}
use Prim.Native.Char.{code}
use Rattle.text.specs.Class.{is_digit}
use Rattle.text.specs.Bytes.{all, position_of}
use Rattle.decimal.specs.declared.Amount.{Amount}

-- 1 to k digits
unfoldable pub digits_up_to : ℕ → List ℕ → Bool
digits_up_to k s = leb 1 (length s) && leb (length s) k && all is_digit s

-- the number that digits write behind the number v; and the number that they write alone
unfoldable pub digits_value_after : ℕ → List ℕ → ℕ
digits_value_after v [] = v
digits_value_after v (b ∷ bs) = digits_value_after (v * 10 + (b - code "0")) bs

abbrev pub digits_value : List ℕ → ℕ
digits_value s = digits_value_after 0 s

-- what is told of a value: itself, and whether it is zero
abbrev pub amount_of : ℕ → Amount
amount_of x = record { value = x; zero = eqb x 0 }

-- digits without a comma; and digits w, a comma and digits f. The value counts in units of the n-th place behind the comma
unfoldable pub whole_only : ℕ → ℕ → List ℕ → Option Amount
whole_only m n w = cond (digits_up_to m w) (Some (amount_of (digits_value w * 10 ^ n))) None

unfoldable pub whole_and_part : ℕ → ℕ → List ℕ → List ℕ → Option Amount
whole_and_part m n w f =
    cond (digits_up_to m w && digits_up_to n f) (Some (amount_of (digits_value w * 10 ^ n + digits_value f * 10 ^ (n - length f)))) None

-- Nm,n with the first comma at place k, which is the length where there is none
unfoldable pub decimal_at : ℕ → ℕ → ℕ → List ℕ → Option Amount
decimal_at k m n s = cond (ltb k (length s)) (whole_and_part m n (take k s) (drop (k + 1) s)) (whole_only m n s)

-- Nm,n for m and n of together at most 19: a value is then below 10 ^ 19, which a word of 64 bits holds
unfoldable pub decimal_of : ℕ → ℕ → List ℕ → Option Amount
decimal_of m n s = cond (leb (m + n) 19) (decimal_at (position_of (code ",") s) m n s) None

-- the value that was read; 0 where it is malformed
abbrev pub value_of : Option Amount → ℕ
value_of (Some a) = a.value
value_of None = 0

-- it was told that the value is zero; not where it is malformed
abbrev pub tells_zero : Option Amount → Bool
tells_zero (Some a) = a.zero
tells_zero None = false

-- every digit of the text is 0
unfoldable pub every_digit_zero : List ℕ → Bool
every_digit_zero s = all (λ b. not (is_digit b) || eqb b (code "0")) s
