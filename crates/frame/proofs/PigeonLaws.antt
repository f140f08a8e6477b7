-- So many numbers below a bound are not all different.
-- Assumes nothing.
use Prim.Native.Nat.{ℕ, zero, suc, ◌<◌}
use native.Mathlib.Nat.{not-suc-le-zero}
use native.Mathlib.Decide.{ℕ_discrete}
use native.Mathlib.Omega.{arith}
use mathlib.Core.Path.{◌≡◌, refl, sym, ◌∙◌}
use mathlib.Core.Bool.{cond}
use mathlib.Core.Logic.{◌≢◌}
use lib.Dec.{eqb}
use borrow.Author.Tests.{eq-eqb, ne_eqb}

-- the first n values differ from each other
abbrev pub Differ : ℕ → (ℕ → ℕ) → Type 0
Differ n f = (j k : ℕ) → j < k → k < n → f j ≢ f k

-- n + 1 different numbers are not all below n: the last takes the place of the one that is n - 1
pub too_many : (n : ℕ) (f : ℕ → ℕ) → ((k : ℕ) → k < suc n → f k < n) → Differ (suc n) f → ⊥
too_many zero f low differ = not-suc-le-zero (low 0 (omega arith))
too_many (suc n) f low differ = too_many n g g_low g_differ
  where
    last : ℕ
    last = f (suc n)

    g : ℕ → ℕ
    g k = cond (eqb (f k) n) last (f k)

    g_hit : (k : ℕ) → f k ≡ n → g k ≡ last
    g_hit k e = rw (eq-eqb (f k) n e) refl

    g_miss : (k : ℕ) → (f k ≡ n → ⊥) → g k ≡ f k
    g_miss k ne = rw (ne_eqb (f k) n ne) refl

    g_low : (k : ℕ) → k < suc n → g k < n
    g_low k h = go (ℕ_discrete (f k) n)
      where
        go : Dec (f k ≡ n) → g k < n
        go (yes e) =
            let away : f k ≢ last = differ k (suc n) h (omega arith) in
            let top : last < suc n = low (suc n) (omega arith) in
            let not_last : last ≢ n = λ z. away (e ∙ sym z) in
            rw (g_hit k e) (omega (arith, top, not_last))
        go (no ne) = let under : f k < suc n = low k (omega arith) in rw (g_miss k ne) (omega (arith, ne))

    g_differ : Differ (suc n) g
    g_differ j k h l = go (ℕ_discrete (f j) n) (ℕ_discrete (f k) n)
      where
        go : Dec (f j ≡ n) → Dec (f k ≡ n) → g j ≢ g k
        go (yes p) (yes q) e = differ j k h (omega arith) (p ∙ sym q)
        go (yes p) (no q) e = differ k (suc n) l (omega arith) (sym (g_miss k q) ∙ sym e ∙ g_hit j p)
        go (no p) (yes q) e = differ j (suc n) (omega arith) (omega arith) (sym (g_miss j p) ∙ e ∙ g_hit k q)
        go (no p) (no q) e = differ j k h (omega arith) (sym (g_miss j p) ∙ e ∙ g_miss k q)
