-- How the test programs read a line: the parts between single bytes, as spaces, and the numbers and bytes that such parts stand for.
-- Assumes nothing.
use Rattle.std.specs.Prelude.{ℕ, zero, suc, ◌+◌, ◌-◌, ◌*◌, ◌%◌, cond, List, [], ◌∷◌, ◌++◌, leb, length, get_or, take, drop}
use Prim.Native.Char.{code}
use Rattle.text.specs.Bytes.{same, position_of}
use Rattle.text.specs.Text.{bytes}
use Rattle.decimal.specs.Decimal.{decimal_of, value_of}

-- the text before the first byte b; all of it where there is none
unfoldable pub before_first : ℕ → List ℕ → List ℕ
before_first b s = take (position_of b s) s

-- the text behind the first byte b; nothing where there is none
unfoldable pub behind_first : ℕ → List ℕ → List ℕ
behind_first b s = drop (suc (position_of b s)) s

-- where a part that reaches to the end of a text begins in it
abbrev pub tail_start : List ℕ → List ℕ → ℕ
tail_start s t = length s - length t

-- the place behind the first byte b from a place on; the end where there is none
unfoldable pub next_place : ℕ → ℕ → List ℕ → ℕ
next_place b at s = tail_start s (behind_first b (drop at s))

-- the number of up to nine digits; 0 where the text is none
unfoldable pub number_of : List ℕ → ℕ
number_of s = value_of (decimal_of 9 0 s)

-- the value of a hexadecimal digit, 0 to 9 or a to f; of any other byte a value below 16
unfoldable pub digit_value : ℕ → ℕ
digit_value b = cond (leb (code "a") b) ((b - code "a" + 10) % 16) (cond (leb (code "0") b) ((b - code "0") % 16) 0)

-- the byte of the first two hexadecimal digits; 0 where they are not both there
unfoldable pub byte_of : List ℕ → ℕ
byte_of s = cond (leb 2 (length s)) (digit_value (get_or s 0 0) * 16 + digit_value (get_or s 1 0)) 0

-- the bytes that hexadecimal digits give, two by two; a last digit by itself gives none
unfoldable pub bytes_of : List ℕ → List ℕ
bytes_of [] = []
bytes_of (x ∷ []) = []
bytes_of (x ∷ (y ∷ s)) = (digit_value x * 16 + digit_value y) ∷ bytes_of s

-- the bytes that a piece stands for: those that hexadecimal digits give behind %, else its own
unfoldable pub piece_bytes : List ℕ → List ℕ
piece_bytes s = cond (same (take 1 s) (bytes "%")) (bytes_of (drop 1 s)) s

-- a text so many times
unfoldable pub repeated : ℕ → List ℕ → List ℕ
repeated zero t = []
repeated (suc n) t = t ++ repeated n t
