-- Places 31 to 41 of document 01: currency, quantity and price. Whether F21 and F24 are money is given with them.
-- Assumes nothing.
use Rattle.std.specs.Prelude.{ℕ, Bool, ◌&&◌, ◌||◌, not, List, [], ◌∷◌, is_some}
use Rattle.decimal.specs.Decimal.{decimal_of, tells_zero}
use Rattle.tables.specs.Currencies.{is_special}
use Rattle.fields.specs.Forms.{blank, filled, one_of}

-- the field is Nm,n
abbrev pub is_decimal : ℕ → ℕ → List ℕ → Bool
is_decimal m n s = is_some (decimal_of m n s)

-- the field is Nm,n, and its value isn't zero (document 02, Item 4)
abbrev pub is_positive : ℕ → ℕ → List ℕ → Bool
is_positive m n s = is_decimal m n s && not (tells_zero (decimal_of m n s))

unfoldable pub terms_tests : Bool → Bool → List ℕ → List ℕ → List ℕ → List ℕ → List ℕ → List Bool
terms_tests money21 money24 f21 f22 f23 f24 f25 =
    -- 31 0210 F21 blank
    blank f21
    -- 32 0211 F21 filled, neither special nor money
    ∷ (filled f21 && not (is_special f21) && not money21)
    -- 33 0220 F22 blank
    ∷ blank f22
    -- 34 0221 F22 filled, not N15,4, or zero (document 02, Item 4)
    ∷ (filled f22 && not (is_positive 15 4 f22))
    -- 35 0230 F23 blank
    ∷ blank f23
    -- 36 0231 F23 filled, not 1 to 4
    ∷ (filled f23 && not (one_of f23 "1234"))
    -- 37 0232 F21 money with F23 1 or 4, or special with 2 or 3
    ∷ (money21 && one_of f23 "14" || is_special f21 && one_of f23 "23")
    -- 38 0240 F21 money, F24 filled
    ∷ (money21 && filled f24)
    -- 39 0241 F21 special, F24 not money
    ∷ (is_special f21 && not money24)
    -- 40 0250 F25 blank
    ∷ blank f25
    -- 41 0251 F25 filled, not N7,4
    ∷ (filled f25 && not (is_decimal 7 4 f25))
    ∷ []
