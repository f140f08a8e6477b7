-- Worked texts of field 33: a case each, and what fails of some of them.
-- Assumes nothing.
use mathlib.Core.Bool.{true, false}
use mathlib.Core.List.{[], ◌∷◌, map}
use mathlib.Core.Path.{◌≡◌, refl}
use Rattle.text.specs.Bytes.{all, same}
use Rattle.text.specs.Text.{bytes}
use Rattle.identifier.specs.Isin.{isin_form, letter_value, digits_of, digits, weighted, digit_sum, check_digit_right}
use Rattle.fields.specs.Forms.{letter}
use Rattle.underlying.specs.declared.Theme.TheVariants.{NonMetal}
use Rattle.underlying.specs.declared.Underlying.TheVariants.{Missing, Isin, Eurex, Otob, Foreign, Themed, Unlisted, Unknown}
use Rattle.underlying.specs.Underlying.{asks_underlying, is_missing, is_theme, present_tests, underlying_tests}
use Rattle.underlying.specs.Cases.{first_theme, present_of, underlying_of}

pub cases :
    map underlying_of (map bytes ("" ∷ "SAT0000999982" ∷ "S" ∷ "EVER" ∷ "O" ∷ "ADTE" ∷ "TNON-METAL" ∷ "TNONMETAL" ∷ "X" ∷ []))
    ≡ Missing ∷ Isin true ∷ Isin false ∷ Eurex false ∷ Otob true ∷ Foreign false ∷ Themed NonMetal ∷ Unlisted ∷ Unknown ∷ []
unfolding underlying_of present_of first_theme is_missing isin_form letter_value digits_of digits weighted digit_sum check_digit_right all same
cases = refl

-- F19=E, F21=XXK: the text fails 54 and 55
pub unlisted :
    underlying_tests (bytes "E") (bytes "XXK") (bytes "TNONMETAL")
    ≡ false ∷ false ∷ true ∷ true ∷ false ∷ false ∷ false ∷ []
unfolding underlying_tests present_tests asks_underlying is_missing is_theme letter same
unlisted = refl
