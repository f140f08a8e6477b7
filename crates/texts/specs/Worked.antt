-- Small lists of texts, of one and of three rows, for the worked cases of document 02, Item 1.
-- Assumes nothing.
use Rattle.std.specs.Prelude.{ℕ, ◌-◌, List, ◌++◌, length, replicate}
use Prim.Native.String.{String}
use Rattle.text.specs.Text.{bytes}
use Rattle.texts.specs.Texts.{text_row_size, text_code_size}

-- a row: its code, its text and trailing spaces
unfoldable pub row_of_text : String → String → List ℕ
row_of_text digits text = bytes digits ++ (bytes text ++ replicate (text_row_size - text_code_size - length (bytes text)) 0x20)

-- the member's list, and ours
unfoldable pub member_texts : List ℕ
member_texts = row_of_text "0041" "No such bank" ++ row_of_text "9045" "  16 bytes"

unfoldable pub our_texts : List ℕ
our_texts = row_of_text "0007" "" ++ (row_of_text "0041" "Unknown bank code" ++ row_of_text "0102" "Number already used")
