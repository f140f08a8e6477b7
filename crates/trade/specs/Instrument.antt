-- Places 25 to 30 of document 01: kind and number of the instrument.
-- Assumes nothing.
use Rattle.std.specs.Prelude.{ℕ, Bool, ◌&&◌, ◌||◌, not, List, [], ◌∷◌}
use Rattle.identifier.specs.Isin.{isin_form, check_digit_right}
use Rattle.fields.specs.Forms.{blank, filled, longer, is, one_of}

unfoldable pub instrument_tests : List ℕ → List ℕ → List Bool
instrument_tests f19 f20 =
    -- 25 0191 F19 not S, E, O, A, R, I
    not (one_of f19 "SEOARI")
    -- 26 0200 F20 blank
    ∷ blank f20
    -- 27 0201 F20 filled, F19=S, not ISIN form
    ∷ (filled f20 && is f19 "S" && not (isin_form f20))
    -- 28 0204 F20 filled, F19=R, over 4 bytes
    ∷ (filled f20 && is f19 "R" && longer 4 f20)
    -- 29 0206 F20 filled, F19=S, form right, check digit wrong
    ∷ (filled f20 && is f19 "S" && isin_form f20 && not (check_digit_right f20))
    -- 30 0207 F20 filled, F19=E and over 20 bytes, or O, A, I and over 15
    ∷ (filled f20 && (is f19 "E" && longer 20 f20 || one_of f19 "OAI" && longer 15 f20))
    ∷ []
