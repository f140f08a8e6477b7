-- Tests of a field that the checks of document 01 are made of.
-- Assumes nothing.
use Rattle.std.specs.Prelude.{ℕ, Bool, false, ◌||◌, not, List, [] as []ᴸ, ◌∷◌ as ◌∷ᴸ◌, eqb, ltb, length, get_or}
use Prim.Native.Char.{Char, code}
use Prim.Native.String.{String, [], ◌∷◌}

-- "Blank" means length 0; a space is not blank
abbrev pub blank : List ℕ → Bool
blank s = eqb (length s) 0

abbrev pub filled : List ℕ → Bool
filled s = not (blank s)

abbrev pub longer : ℕ → List ℕ → Bool
longer n s = ltb n (length s)

-- the byte of a field of one byte; 0 for any other field
unfoldable pub letter : List ℕ → ℕ
letter []ᴸ = 0
letter (x ∷ᴸ []ᴸ) = x
letter (x ∷ᴸ (y ∷ᴸ ys)) = 0

-- the field is the one letter
abbrev pub is : List ℕ → Char → Bool
is s x = eqb (letter s) (code x)

-- the field is one of the letters
abbrev pub or_one_of : Bool → List ℕ → String → Bool
or_one_of found s [] = found
or_one_of found s (x ∷ xs) = or_one_of (found || is s x) s xs

abbrev pub one_of : List ℕ → String → Bool
one_of s [] = false
one_of s (x ∷ xs) = or_one_of (is s x) s xs

-- the field begins with the letter
abbrev pub starts : List ℕ → Char → Bool
starts s x = eqb (get_or s 0 0) (code x)
