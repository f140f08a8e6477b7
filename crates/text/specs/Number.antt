-- Numbers as bytes: little-endian ones of a fixed count of bytes, at a place of a list; and the big-endian number of a text.
-- Assumes nothing.
use Rattle.std.specs.Prelude.{ℕ, zero, suc, ◌+◌, ◌*◌, ◌/◌, ◌%◌, ◌^◌, cond, List, [], ◌∷◌, ◌++◌, leb, length, take, drop}

-- the number whose bytes these are, the lowest first
unfoldable pub little_endian : List ℕ → ℕ
little_endian [] = 0
little_endian (b ∷ bs) = b + 256 * little_endian bs

-- the same, the highest first
unfoldable pub big_endian : List ℕ → ℕ
big_endian [] = 0
big_endian (b ∷ bs) = b * 256 ^ length bs + big_endian bs

-- the n lowest bytes of a number, the lowest first
unfoldable pub low_bytes : ℕ → ℕ → List ℕ
low_bytes zero x = []
low_bytes (suc n) x = x % 256 ∷ low_bytes n (x / 256)

-- the number in the n bytes from a place on; 0 where they are not all there
unfoldable pub number_at : ℕ → ℕ → List ℕ → ℕ
number_at n at s = cond (leb (at + n) (length s)) (little_endian (take n (drop at s))) 0

-- the list with a number in the n bytes from a place on; as it was where they are not all there
unfoldable pub number_put : ℕ → ℕ → ℕ → List ℕ → List ℕ
number_put n at x s = cond (leb (at + n) (length s)) (take at s ++ (low_bytes n x ++ drop n (drop at s))) s
