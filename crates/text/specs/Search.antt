-- Keys in ascending order: what stands among them, and a search that halves what is left at each turn.
-- Assumes nothing.
use Rattle.std.specs.Prelude.{ℕ, zero, suc, ◌+◌, ◌-◌, ◌/◌, Bool, true, false, ◌||◌, cond, List, ltb, eqb}
use Rattle.frame.specs.Every.{every, least}
use Rattle.text.specs.Bytes.{same}
use Rattle.text.specs.Order.{below}

-- s is one of so many keys
unfoldable pub is_among : ℕ → (ℕ → List ℕ) → List ℕ → Bool
is_among count key s = ltb (least count (λ k. same (key k) s)) count

-- key k comes after the key before it, if there is one
unfoldable pub follows : (ℕ → List ℕ) → ℕ → Bool
follows key k = eqb k 0 || below (key (k - 1)) (key k)

-- so many keys ascend strictly
abbrev pub ascend : ℕ → (ℕ → List ℕ) → Bool
ascend count key = every count (follows key)

-- the place at which a search of the keys from low to below high compares
abbrev pub middle : ℕ → ℕ → ℕ
middle low high = low + (high - low) / 2

-- what a search finds among the keys from low to below high that halves them at most n times
unfoldable pub searched : ℕ → (ℕ → List ℕ) → List ℕ → ℕ → ℕ → Bool
searched zero key s low high = false
searched (suc n) key s low high =
    cond (ltb low high)
    (cond (same (key (middle low high)) s) true
    (cond (below (key (middle low high)) s) (searched n key s (middle low high + 1) high) (searched n key s low (middle low high))))
    false

-- what a search of all keys finds: what stands among them, where they ascend
unfoldable pub found : ℕ → (ℕ → List ℕ) → List ℕ → Bool
found count key s = searched count key s 0 count
