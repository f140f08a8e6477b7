-- The classes of bytes that the forms of documents 01 and 02 are made of.
-- Assumes nothing.
use Rattle.std.specs.Prelude.{ℕ, Bool, ◌&&◌, ◌||◌, not, leb, ltb, eqb}
use Prim.Native.Char.{code}
use Rattle.text.specs.declared.Class.{Class}
use Rattle.text.specs.declared.Class.TheVariants.{Digit, Capital, CapitalOrDigit, WordByte, RecordByte, AboveApostrophe, BodyByte, Space, Zero, TextByte}

-- 0 to 9
abbrev pub is_digit : ℕ → Bool
is_digit b = leb (code "0") b && leb b (code "9")

-- A to Z
abbrev pub is_capital : ℕ → Bool
is_capital b = leb (code "A") b && leb b (code "Z")

abbrev pub is_capital_or_digit : ℕ → Bool
is_capital_or_digit b = is_capital b || is_digit b

-- a byte of a control word: 0x20 to 0x7E without + ' : ?
abbrev pub is_word_byte : ℕ → Bool
is_word_byte b =
    leb 0x20 b && leb b 0x7E
    && not (eqb b (code "+")) && not (eqb b (code "'")) && not (eqb b (code ":")) && not (eqb b (code "?"))

-- a byte of a record: no CR, LF or apostrophe
abbrev pub is_record_byte : ℕ → Bool
is_record_byte b = not (eqb b 13) && not (eqb b 10) && not (eqb b (code "'"))

-- above the apostrophe, and so above CR and LF: one comparison tells that it is a byte of a record
abbrev pub is_above_apostrophe : ℕ → Bool
is_above_apostrophe b = ltb (code "'") b

-- a byte of an envelope's body: no apostrophe
abbrev pub is_body_byte : ℕ → Bool
is_body_byte b = not (eqb b (code "'"))

-- a byte of a text of the error file, document 02 Item 1: 0x20 to 0x7E without apostrophe
abbrev pub is_text_byte : ℕ → Bool
is_text_byte b = leb 0x20 b && leb b 0x7E && not (eqb b (code "'"))

abbrev pub is_space : ℕ → Bool
is_space b = eqb b (code " ")

abbrev pub is_zero : ℕ → Bool
is_zero b = eqb b 0

abbrev pub belongs_to : Class → ℕ → Bool
belongs_to Digit b = is_digit b
belongs_to Capital b = is_capital b
belongs_to CapitalOrDigit b = is_capital_or_digit b
belongs_to WordByte b = is_word_byte b
belongs_to RecordByte b = is_record_byte b
belongs_to AboveApostrophe b = is_above_apostrophe b
belongs_to BodyByte b = is_body_byte b
belongs_to Space b = is_space b
belongs_to Zero b = is_zero b
belongs_to TextByte b = is_text_byte b
