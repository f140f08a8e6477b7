-- The worked dates of document 01, as one statement over a list.
-- Assumes nothing.
use mathlib.Core.Bool.{true, false}
use mathlib.Core.List.{[], ◌∷◌, map}
use mathlib.Core.Path.{◌≡◌, refl}
use Prim.Native.String.{String}
use Rattle.text.specs.Bytes.{all}
use Rattle.text.specs.Text.{bytes}
use Rattle.calendar.specs.Calendar.{digits_exactly, real_date, real_day, days_in}

pub worked : map (λ (t : String). real_date (bytes t)) ("20120229" ∷ "20130229" ∷ []) ≡ true ∷ false ∷ []
unfolding digits_exactly real_date real_day days_in all
worked = refl
