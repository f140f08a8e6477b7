-- Loops and runs of stores that make a list into another.
-- Assumes nothing.
use Prim.Native.Nat.{ℕ, ◌+◌, ◌<◌}
use native.Mathlib.Decide.{ℕ_discrete}
use native.Mathlib.Omega.{arith}
use mathlib.Core.Path.{◌≡◌, sym, ◌∙◌}
use mathlib.Core.List.{List, ◌++◌, append_assoc}
use lib.ListN.{length, get_or, take, drop, set}
use lib.Seq.{get_or-set_same, get_or-set_other, take_at, drop_at}

-- one more place of s holds what t has there
pub store_more : (s t : List ℕ) (i v : ℕ) → i < length s → v ≡ get_or t i 0 → ((k : ℕ) → k < i → get_or s k 0 ≡ get_or t k 0) → (k : ℕ) → k < i + 1
    → get_or (set s i v) k 0 ≡ get_or t k 0
store_more s t i v h e f k kh = go (ℕ_discrete k i)
  where
    go : Dec (k ≡ i) → get_or (set s i v) k 0 ≡ get_or t k 0
    go (yes q) = rw (q, get_or-set_same s i v 0 h) e
    go (no ne) = get_or-set_other s i k v 0 ne ∙ f k (omega arith)

-- a part that is filled behind what is done already
pub extend : (d r ys : List ℕ) (a k : ℕ) → length d ≡ a → take a (d ++ r) ++ (ys ++ drop k (drop a (d ++ r))) ≡ (d ++ ys) ++ drop k r
extend d r ys a k e = rw (take_at d r a e, drop_at d r a e) (sym (append_assoc d ys (drop k r)))
