-- Places 47 to 51 of document 01: type, contract size and strike price of a derivative. Whether F21 is money is given with the fields.
-- Assumes nothing.
use Rattle.std.specs.Prelude.{ℕ, Bool, ◌&&◌, ◌||◌, not, List, [], ◌∷◌}
use Rattle.text.specs.Bytes.{same}
use Rattle.text.specs.Text.{bytes}
use Rattle.fields.specs.Forms.{filled, is, one_of}
use Rattle.terms.specs.Terms.{is_decimal}

unfoldable pub derivative_tests : Bool → List ℕ → List ℕ → List ℕ → List ℕ → List Bool
derivative_tests money21 f21 f29 f30 f32 =
    -- 47 0290 F21 XXK or XXO, F29 not C, P, F
    ((same f21 (bytes "XXK") || same f21 (bytes "XXO")) && not (one_of f29 "CPF"))
    -- 48 0292 F21 XXO with F29=F
    ∷ (same f21 (bytes "XXO") && is f29 "F")
    -- 49 0293 F21 money, XXX or XXZ, F29 filled
    ∷ ((money21 || same f21 (bytes "XXX") || same f21 (bytes "XXZ")) && filled f29)
    -- 50 0301 F21 XXK, F30 not N10,6 (document 02, Item 2)
    ∷ (same f21 (bytes "XXK") && not (is_decimal 10 6 f30))
    -- 51 0321 F21 XXO, or XXK with F29 C or P: F32 not N10,6
    ∷ ((same f21 (bytes "XXO") || same f21 (bytes "XXK") && one_of f29 "CP") && not (is_decimal 10 6 f32))
    ∷ []
