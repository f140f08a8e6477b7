-- Numbers and codes as text.
-- Assumes nothing.
use Rattle.std.specs.Prelude.{ℕ, suc, ◌^◌, List, ltb}
use Rattle.frame.specs.Every.{least}
use Rattle.io.specs.Digits.{last_digits}

-- how many decimal digits a number below 10 ^ 20 has
unfoldable pub digit_count : ℕ → ℕ
digit_count n = suc (least 19 (λ k. ltb n (10 ^ suc k)))

-- a number without leading zeros
unfoldable pub number_text : ℕ → List ℕ
number_text n = last_digits 10 (digit_count n) n

-- a code of four digits
unfoldable pub code_text : ℕ → List ℕ
code_text n = last_digits 10 4 n
