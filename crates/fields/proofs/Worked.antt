-- The fields of the worked record R1 of document 01.
-- Assumes nothing.
use mathlib.Core.List.{[], ◌∷◌, map}
use mathlib.Core.Path.{◌≡◌, refl}
use Rattle.text.specs.Text.{bytes}
use Rattle.fields.specs.Worked.{worked_record, r1}
use Rattle.fields.specs.Fields.{semicolons_from, is_whole, field_start, field_end, field_place, field_of}

pub worked :
    map (field_of r1) (1 ∷ 2 ∷ 20 ∷ 25 ∷ 38 ∷ 39 ∷ 0 ∷ 40 ∷ [])
    ≡ bytes "B" ∷ bytes "98001" ∷ bytes "AT0000831706" ∷ bytes "54,7" ∷ bytes "N" ∷ bytes "A1" ∷ [] ∷ [] ∷ []
unfolding worked_record field_of field_place field_start field_end is_whole semicolons_from
worked = refl
