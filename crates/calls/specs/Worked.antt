-- "Worked inputs" of document 01: its tables, its sender, the all-zero ledger, and a report file round a body; and records of document 02, Items 2 and 4.
-- Assumes nothing.
use Rattle.std.specs.Prelude.{ℕ, ◌-◌, List, [], ◌∷◌, ◌++◌, replicate}
use Prim.Native.Char.{code}
use Prim.Native.String.{String}
use Rattle.text.specs.Number.{low_bytes}
use Rattle.text.specs.Text.{bytes}
use Rattle.tables.specs.Tables.{Tables, tables_of}
use Rattle.ledger.specs.Row.{row_size}
use Rattle.ledger.specs.Sound.{compartment_size, ledger_size}

-- a row of the reporters table: 24 bytes, then zeros
abbrev pub worked_row : String → List ℕ
worked_row t = bytes t ++ replicate 8 0

unfoldable pub worked_reporters : List ℕ
worked_reporters = worked_row "98001AAAAATW1XXXMBONE   " ++ (worked_row "98002BBBBATW1XXXMBONE   " ++ worked_row "98003CCCCATW1XXXMBTWO   ")

unfoldable pub worked_currencies : List ℕ
worked_currencies = bytes "CHFEURUSD"

abbrev pub worked_tables : Tables
worked_tables = tables_of worked_reporters worked_currencies

abbrev pub worked_sender : List ℕ
worked_sender = bytes "MBONE"

unfoldable pub empty_ledger : List ℕ
empty_ledger = replicate ledger_size 0

-- the sixteen bytes of the answer to a record of n bytes that is booked in row 0 of compartment 0: no failure, code 0, row 0, booked, in new row 0
unfoldable pub booked_answer : ℕ → List ℕ
booked_answer n = replicate 14 0 ++ low_bytes 2 n

-- to R1, of 102 bytes
abbrev pub r1_answer : List ℕ
r1_answer = booked_answer 102

-- and to R5: the set 87,960,930,222,080 (places 44 and 46), code 282, row 0, status 2, no new row, 102 bytes
unfoldable pub r5_answer : List ℕ
r5_answer = low_bytes 8 87_960_930_222_080 ++ (0x1A ∷ 1 ∷ 0 ∷ 2 ∷ 255 ∷ 255 ∷ 102 ∷ 0 ∷ [])

-- "records with 0,125000 in field 30" (document 02, Item 2): R1 as a future on the same share, of XXK; and the answer to it
unfoldable pub future : List ℕ
future =
    bytes "B;98001;I;4711;;;B;20130903;101500;;;;;WBAH;J;;;N;S;AT0000831706;XXK;1500;1;EUR;54,7;;;K;F;0,125000;;;SAT0000831706;;;;;N;A1"

abbrev pub future_answer : List ℕ
future_answer = booked_answer 124

-- "A member sent 0,0000 as quantity" (document 02, Item 4): R1 with it; and the answer: the set 17,179,869,184 (place 34), code 221, row 0, status 2,
-- no new row, 104 bytes
unfoldable pub zero_quantity : List ℕ
zero_quantity = bytes "B;98001;I;4711;;;B;20130903;101500;;;;;WBAH;J;;;N;S;AT0000831706;XXX;0,0000;1;EUR;54,7;;;K;;;;;;;;;;N;A1"

unfoldable pub zero_quantity_answer : List ℕ
zero_quantity_answer = low_bytes 8 17_179_869_184 ++ (0xDD ∷ 0 ∷ 0 ∷ 2 ∷ 255 ∷ 255 ∷ 104 ∷ 0 ∷ [])

-- "places 41, 50 and 51 still take zero": R1 as an option of XXK with zero as price, contract size and strike price; and the answer to it
unfoldable pub zero_terms : List ℕ
zero_terms =
    bytes "B;98001;I;4711;;;B;20130903;101500;;;;;WBAH;J;;;N;S;AT0000831706;XXK;1500;1;EUR;0,0000;;;K;C;0;;000,0;SAT0000831706;;;;;N;A1"

abbrev pub zero_terms_answer : List ℕ
zero_terms_answer = booked_answer 124

-- the row that R1 is booked in, and the future and the option too: live, a number of two bytes, A1, 1,500 in ten-thousandths, no partner, B
unfoldable pub r1_row : List ℕ
r1_row = 1 ∷ 2 ∷ bytes "A1" ++ (replicate 14 0 ++ (low_bytes 8 15_000_000 ++ (255 ∷ 255 ∷ code "B" ∷ 0 ∷ 0 ∷ 0 ∷ [])))

-- the compartment with that row alone
abbrev pub r1_compartment : List ℕ
r1_compartment = r1_row ++ replicate (compartment_size - row_size) 0

-- the answer to an empty record: place 0, code 9001, no row, status 1, no new row, no byte
unfoldable pub blank_answer : List ℕ
blank_answer = 1 ∷ 0 ∷ 0 ∷ 0 ∷ 0 ∷ 0 ∷ 0 ∷ 0 ∷ (low_bytes 2 9001 ++ (255 ∷ 1 ∷ 255 ∷ 255 ∷ 0 ∷ 0 ∷ []))

-- a report of that sender with the given body
unfoldable pub worked_file : List ℕ → List ℕ
worked_file body =
    bytes "UNB+UNOA:1+MBONE+ATBWA+20130903:1700+DAY0903++BWAMS'UNH+BWA+BWA:0'" ++ (body ++ bytes "'UNT+3+BWA'UNZ+1+DAY0903'")
