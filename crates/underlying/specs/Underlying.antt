-- Places 52 to 58 of document 01: field 33, the underlying of a derivative.
-- Assumes nothing.
use Rattle.std.specs.Prelude.{ℕ, Bool, false, ◌&&◌, ◌||◌, not, cond, List, [], ◌∷◌, drop}
use Rattle.text.specs.Bytes.{same}
use Rattle.text.specs.Text.{bytes}
use Rattle.identifier.specs.Isin.{valid_isin}
use Rattle.fields.specs.Forms.{blank, longer, is, starts}

-- F21 is XXK, XXO or XXZ: the underlying is judged
unfoldable pub asks_underlying : List ℕ → Bool
asks_underlying f21 = same f21 (bytes "XXK") || same f21 (bytes "XXO") || same f21 (bytes "XXZ")

-- F33 is blank or over 41 bytes
unfoldable pub is_missing : List ℕ → Bool
is_missing f33 = blank f33 || longer 41 f33

-- one of BASKET, COMMODITY, METAL, NON-METAL, INTEREST, CURRENCY
unfoldable pub is_theme : List ℕ → Bool
is_theme s =
    same s (bytes "BASKET") || same s (bytes "COMMODITY") || same s (bytes "METAL")
    || same s (bytes "NON-METAL") || same s (bytes "INTEREST") || same s (bytes "CURRENCY")

-- whether each of places 53 to 58 fails, of an underlying that is there
unfoldable pub present_tests : List ℕ → List ℕ → List Bool
present_tests f19 f33 =
    -- 53 0332 S, the rest not a valid ISIN
    (starts f33 "S" && not (valid_isin (drop 1 f33)))
    -- 54 0335 F19=E and O, A or T
    ∷ (is f19 "E" && (starts f33 "O" || starts f33 "A" || starts f33 "T"))
    -- 55 0336 T, the rest not one of the six words
    ∷ (starts f33 "T" && not (is_theme (drop 1 f33)))
    -- 56 0337 not S, E, O, A, T
    ∷ not (starts f33 "S" || starts f33 "E" || starts f33 "O" || starts f33 "A" || starts f33 "T")
    -- 57 0338 F19=O and E, A or T
    ∷ (is f19 "O" && (starts f33 "E" || starts f33 "A" || starts f33 "T"))
    -- 58 0339 E, O or A alone
    ∷ ((starts f33 "E" || starts f33 "O" || starts f33 "A") && blank (drop 1 f33))
    ∷ []

-- places 52 to 58: judged where F21 asks for an underlying, 53 to 58 only where 52 passes
unfoldable pub underlying_tests : List ℕ → List ℕ → List ℕ → List Bool
underlying_tests f19 f21 f33 =
    -- 52 0331 F33 blank or over 41 bytes
    (asks_underlying f21 && is_missing f33)
    ∷ cond (asks_underlying f21 && not (is_missing f33)) (present_tests f19 f33) (false ∷ false ∷ false ∷ false ∷ false ∷ false ∷ [])
