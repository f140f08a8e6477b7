-- Tests of every number below a bound, the least number below it that passes, and how many do.
-- Assumes nothing.
use Rattle.std.specs.Prelude.{ℕ, zero, suc, ◌+◌, Bool, true, ◌&&◌, cond, ltb, Option, Some, None}

-- every number below n passes
unfoldable pub every : ℕ → (ℕ → Bool) → Bool
every zero p = true
every (suc n) p = every n p && p n

-- the least number below n that passes; n where none does
unfoldable pub least : ℕ → (ℕ → Bool) → ℕ
least zero p = zero
least (suc n) p = cond (p zero) zero (suc (least n (λ k. p (suc k))))

-- how many numbers below n pass
unfoldable pub how_many : ℕ → (ℕ → Bool) → ℕ
how_many zero p = 0
how_many (suc n) p = how_many n p + cond (p n) 1 0

-- a number below n, as a function hands it out that tells by None that there is none
abbrev pub within : ℕ → ℕ → Option ℕ
within n k = cond (ltb k n) (Some k) None
