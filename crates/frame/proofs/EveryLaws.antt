-- `every` and the statement that it tests; what a loop that counts knows of `howMany`.
-- Assumes nothing.
use Prim.Native.Nat.{ℕ, zero, suc, ◌+◌, ◌≤◌, ◌<◌}
use native.Mathlib.Nat.{not-suc-le-zero, le_of_suc-le-suc, eq-or-lt_of_le}
use native.Mathlib.Numerals.{add-one}
use native.Mathlib.Omega.{arith}
use mathlib.Core.Path.{◌≡◌, refl, subst, sym, ◌∙◌}
use mathlib.Core.Bool.{Bool, true, false, cond, false≢true}
use mathlib.Core.Logic.{⊎_elim}
use Rattle.frame.specs.Every.{every, how_many}
use Rattle.frame.proofs.BoolLaws.{and_left, and_right, and_intro}

pub every_at : (n : ℕ) (p : ℕ → Bool) → every n p ≡ true → (k : ℕ) → k < n → p k ≡ true
unfolding every
every_at zero p e k h = absurd (not-suc-le-zero h)
every_at (suc n) p e k h =
    ⊎_elim (λ q. rw q (and_right (every n p) (p n) e)) (λ q. every_at n p (and_left (every n p) (p n) e) k q)
    (eq-or-lt_of_le (le_of_suc-le-suc h))

pub every_intro : (n : ℕ) (p : ℕ → Bool) → ((k : ℕ) → k < n → p k ≡ true) → every n p ≡ true
unfolding every
every_intro zero p f = refl
every_intro (suc n) p f = and_intro (every n p) (p n) (every_intro n p (λ k h. f k (omega arith))) (f n (omega arith))

-- one failure below the bound fails the whole
pub every_fails : (n : ℕ) (p : ℕ → Bool) (k : ℕ) → k < n → p k ≡ false → every n p ≡ false
every_fails n p k h e = go (every n p) refl
  where
    go : (b : Bool) → every n p ≡ b → b ≡ false
    go true q = absurd (false≢true (sym e ∙ every_at n p q k h))
    go false q = refl

pub every_same : (n : ℕ) (p q : ℕ → Bool) → ((k : ℕ) → k < n → p k ≡ q k) → every n p ≡ every n q
unfolding every
every_same zero p q f = refl
every_same (suc n) p q f = rw (every_same n p q (λ k h. f k (omega arith)), f n (omega arith))

-- what a loop over the numbers below n knows: at its start, after one number more, at its end, and where it breaks off
pub every_none : (p : ℕ → Bool) → every 0 p ≡ true
unfolding every
every_none p = refl

pub every_more : (p : ℕ → Bool) (i : ℕ) → every i p ≡ true → p i ≡ true → every (i + 1) p ≡ true
unfolding every
every_more p i f e = rw add-one (and_intro (every i p) (p i) f e)

pub every_done : (n : ℕ) (p : ℕ → Bool) (i : ℕ) → i ≤ n → n ≤ i → every i p ≡ true → true ≡ every n p
every_done n p i h g e = let q : i ≡ n = omega arith in sym (subst (λ (m : ℕ). every m p ≡ true) q e)

pub every_broke : (n : ℕ) (p : ℕ → Bool) (i : ℕ) → i < n → p i ≡ false → false ≡ every n p
every_broke n p i h e = sym (every_fails n p i h e)

-- what a count knows at its start, after a number that passes, and after one that doesn't
module _ (p : ℕ → Bool) where
  pub many_none : 0 ≡ how_many 0 p
  unfolding how_many
  many_none = refl

  pub many_more : (n k : ℕ) → n ≡ how_many k p → p k ≡ true → n + 1 ≡ how_many (k + 1) p
  unfolding how_many
  many_more n k e h = rw (add-one k, h, e)

  pub many_same : (n k : ℕ) → n ≡ how_many k p → p k ≡ false → n ≡ how_many (k + 1) p
  unfolding how_many
  many_same n k e h = rw (add-one k, h) (omega arith)

pub many_most : (n : ℕ) (p : ℕ → Bool) → how_many n p ≤ n
unfolding how_many
many_most zero p = omega arith
many_most (suc n) p = go (p n) (many_most n p)
  where
    go : (b : Bool) → how_many n p ≤ n → how_many n p + cond b 1 0 ≤ suc n
    go true h = omega arith
    go false h = omega arith
