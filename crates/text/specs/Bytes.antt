-- Tests and searches over a list of bytes.
-- Assumes nothing.
use Rattle.std.specs.Prelude.{ℕ, suc, Bool, true, false, ◌&&◌, cond, List, [], ◌∷◌, eqb}

-- every byte of the list passes the test
unfoldable pub all : (ℕ → Bool) → List ℕ → Bool
all p [] = true
all p (x ∷ xs) = p x && all p xs

-- the two lists hold the same bytes
unfoldable pub same : List ℕ → List ℕ → Bool
same [] [] = true
same [] (y ∷ ys) = false
same (x ∷ xs) [] = false
same (x ∷ xs) (y ∷ ys) = eqb x y && same xs ys

-- where b first stands in the list; the list's length where it doesn't
unfoldable pub position_of : ℕ → List ℕ → ℕ
position_of b [] = 0
position_of b (x ∷ xs) = cond (eqb x b) 0 (suc (position_of b xs))
