-- The least number below a bound that passes a test.
-- Assumes nothing.
use Prim.Native.Nat.{ℕ, zero, suc, ◌≤◌, ◌<◌}
use native.Mathlib.Nat.{not-suc-le-zero, le_of_suc-le-suc}
use native.Mathlib.Omega.{arith}
use mathlib.Core.Path.{◌≡◌, refl, ap, sym, ◌∙◌}
use mathlib.Core.Bool.{Bool, true, false, cond}
use Rattle.frame.specs.Every.{least}

pub least_le : (n : ℕ) (p : ℕ → Bool) → least n p ≤ n
unfolding least
least_le zero p = omega arith
least_le (suc n) p = go (p zero) (least_le n (λ k. p (suc k)))
  where
    go : (b : Bool) → least n (λ k. p (suc k)) ≤ n → cond b zero (suc (least n (λ k. p (suc k)))) ≤ suc n
    go true h = omega arith
    go false h = omega arith

pub least_below : (n : ℕ) (p : ℕ → Bool) (k : ℕ) → k < least n p → p k ≡ false
unfolding least
least_below zero p k h = absurd (not-suc-le-zero h)
least_below (suc n) p k h = go (p zero) refl k h (least_below n (λ j. p (suc j)))
  where
    go : (b : Bool) → p zero ≡ b → (k : ℕ) → k < cond b zero (suc (least n (λ j. p (suc j))))
        → ((j : ℕ) → j < least n (λ i. p (suc i)) → p (suc j) ≡ false) → p k ≡ false
    go true e k h f = absurd (not-suc-le-zero h)
    go false e zero h f = e
    go false e (suc k) h f = f k (le_of_suc-le-suc h)

pub least_hit : (n : ℕ) (p : ℕ → Bool) → least n p < n → p (least n p) ≡ true
unfolding least
least_hit zero p h = absurd (not-suc-le-zero h)
least_hit (suc n) p h = go (p zero) refl h (least_hit n (λ j. p (suc j)))
  where
    go : (b : Bool) → p zero ≡ b → cond b zero (suc (least n (λ j. p (suc j)))) < suc n
        → (least n (λ j. p (suc j)) < n → p (suc (least n (λ j. p (suc j)))) ≡ true) → p (cond b zero (suc (least n (λ j. p (suc j))))) ≡ true
    go true e h f = e
    go false e h f = f (le_of_suc-le-suc h)

-- what a search from 0 up has found, or not
pub least_is : (n : ℕ) (p : ℕ → Bool) (k : ℕ) → k < n → ((j : ℕ) → j < k → p j ≡ false) → p k ≡ true → least n p ≡ k
unfolding least
least_is zero p k h f e = absurd (not-suc-le-zero h)
least_is (suc n) p zero h f e = rw e
least_is (suc n) p (suc k) h f e =
    rw (f zero (omega arith)) (ap suc (least_is n (λ j. p (suc j)) k (le_of_suc-le-suc h) (λ j jh. f (suc j) (omega arith)) e))

pub least_none : (n : ℕ) (p : ℕ → Bool) → ((j : ℕ) → j < n → p j ≡ false) → least n p ≡ n
unfolding least
least_none zero p f = refl
least_none (suc n) p f = rw (f zero (omega arith)) (ap suc (least_none n (λ j. p (suc j)) (λ j jh. f (suc j) (omega arith))))

-- a search that has passed all numbers below the bound
pub least_passed : (n : ℕ) (p : ℕ → Bool) (k : ℕ) → k ≤ n → n ≤ k → ((j : ℕ) → j < k → p j ≡ false) → k ≡ least n p
least_passed n p k h g f = let e : k ≡ n = omega arith in e ∙ sym (least_none n p (λ j l. f j (omega arith)))

-- two tests that agree below a bound have the same least number there
pub least_same : (n : ℕ) (p q : ℕ → Bool) → ((k : ℕ) → k < n → p k ≡ q k) → least n p ≡ least n q
unfolding least
least_same zero p q f = refl
least_same (suc n) p q f = rw (f zero (omega arith), least_same n (λ k. p (suc k)) (λ k. q (suc k)) (λ k h. f (suc k) (omega arith)))
