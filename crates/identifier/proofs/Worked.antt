-- The worked ISINs: two valid ones, and one of them with another check digit.
-- Assumes nothing.
use mathlib.Core.Bool.{true, false}
use mathlib.Core.List.{[], ◌∷◌, map}
use mathlib.Core.Path.{◌≡◌, refl}
use Rattle.text.specs.Bytes.{all}
use Rattle.text.specs.Text.{bytes}
use Rattle.identifier.specs.Isin.{isin_form, letter_value, digits_of, digits, weighted, digit_sum, check_digit_right, valid_isin}

pub worked : map valid_isin (map bytes ("AT0000831706" ∷ "AT0000A02MR0" ∷ "AT0000831707" ∷ [])) ≡ true ∷ true ∷ false ∷ []
unfolding isin_form letter_value digits_of digits weighted digit_sum check_digit_right all
worked = refl
