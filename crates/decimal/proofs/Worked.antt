-- The worked inputs of N15,4 of document 01, and of zero of document 02, Item 4, each as one statement over a list.
-- Assumes nothing.
use Prim.Native.Nat.{ℕ}
use mathlib.Core.Bool.{Bool, true, false}
use mathlib.Core.List.{List, [], ◌∷◌, map}
use mathlib.Core.Path.{◌≡◌, refl}
use Prim.Native.String.{String}
use Rattle.text.specs.Bytes.{all, position_of}
use Rattle.text.specs.Text.{bytes}
use Rattle.decimal.specs.declared.Amount.{Amount}
use Rattle.std.specs.Prelude.{Option, Some, None}
use Rattle.decimal.specs.Decimal.{decimal_of, decimal_at, whole_only, whole_and_part, digits_up_to, digits_value_after}

-- the answer with a value, and whether it is told zero
abbrev told : ℕ → Bool → Option Amount
told x zero = Some (record { value = x; zero = zero })

pub worked :
    map (λ (t : String). decimal_of 15 4 (bytes t)) ("999999999999999,9999" ∷ "0,20" ∷ "1234567890123456" ∷ "5," ∷ ",5" ∷ [])
    ≡ told 9_999_999_999_999_999_999 false ∷ told 2_000 false ∷ None ∷ None ∷ None ∷ []
unfolding decimal_of decimal_at whole_only whole_and_part digits_up_to digits_value_after all position_of
worked = refl

-- a text as N15,4, N7,4 and N10,6
abbrev at_widths : String → List (Option Amount)
at_widths t = decimal_of 15 4 (bytes t) ∷ decimal_of 7 4 (bytes t) ∷ decimal_of 10 6 (bytes t) ∷ []

pub worked_zeros :
    map at_widths ("0" ∷ "0,0000" ∷ "000,0" ∷ "0,0001" ∷ [])
    ≡ (told 0 true ∷ told 0 true ∷ told 0 true ∷ [])
    ∷ (told 0 true ∷ told 0 true ∷ told 0 true ∷ [])
    ∷ (told 0 true ∷ told 0 true ∷ told 0 true ∷ [])
    ∷ (told 1 false ∷ told 1 false ∷ told 100 false ∷ [])
    ∷ []
unfolding decimal_of decimal_at whole_only whole_and_part digits_up_to digits_value_after all position_of
worked_zeros = refl
