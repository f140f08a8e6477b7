-- "Worked inputs" of document 01: the records R1 to R5.
-- Assumes nothing.
use Rattle.std.specs.Prelude.{ℕ, List, ◌++◌}
use Prim.Native.String.{String}
use Rattle.text.specs.Text.{bytes}

-- R1 but for its fields 2, 16, 28 and 39
unfoldable pub worked_record : String → String → String → String → List ℕ
worked_record f2 f16 f28 f39 =
    bytes "B;" ++ (bytes f2 ++ (bytes ";I;4711;;;B;20130903;101500;;;;;WBAH;J;" ++ (bytes f16
    ++ (bytes ";;N;S;AT0000831706;XXX;1500;1;EUR;54,7;;;" ++ (bytes f28 ++ (bytes ";;;;;;;;;;N;" ++ bytes f39))))))

abbrev pub r1 : List ℕ
r1 = worked_record "98001" "" "K" "A1"

abbrev pub r2 : List ℕ
r2 = worked_record "98003" "" "K" "A2"

abbrev pub r3 : List ℕ
r3 = worked_record "98001" "A1" "K" "A3"

abbrev pub r4 : List ℕ
r4 = worked_record "98001" "A1" "K" "A4"

abbrev pub r5 : List ℕ
r5 = worked_record "98001" "" "E" "A5"
