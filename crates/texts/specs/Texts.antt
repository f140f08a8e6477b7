-- The lists of texts of document 02, Item 1: rows of 80 bytes, each a four-digit code, its text and trailing spaces; and the text of a code.
-- Assumes nothing.
use Rattle.std.specs.Prelude.{ℕ, suc, ◌+◌, ◌-◌, ◌*◌, ◌/◌, ◌%◌, Bool, ◌&&◌, not, cond, List, [], eqb, leb, ltb, length, take, drop}
use Rattle.std.specs.Borrow.{Bor}
use Rattle.frame.specs.Every.{every, least}
use Rattle.frame.specs.Parts.{part}
use Rattle.text.specs.Class.{is_digit, is_space, is_text_byte}
use Rattle.text.specs.Bytes.{all}
use Rattle.text.specs.Part.{Lies}
use Rattle.decimal.specs.Decimal.{digits_value}

-- bytes of a row, and of its code; how many codes of four digits there are
abbrev pub text_row_size : ℕ
text_row_size = 80

abbrev pub text_code_size : ℕ
text_code_size = 4

abbrev pub code_count : ℕ
code_count = 10000

-- how many rows a list has; its row k, counted from 0
abbrev pub text_count : List ℕ → ℕ
text_count t = length t / text_row_size

abbrev pub text_row : List ℕ → ℕ → List ℕ
text_row t k = part text_row_size k t

-- "four-digit code": the number that it writes
abbrev pub text_code : List ℕ → ℕ
text_code w = digits_value (take text_code_size w)

-- "text (0x20 to 0x7E, no apostrophe) and trailing spaces"
unfoldable pub text_form : List ℕ → Bool
text_form w = all is_digit (take text_code_size w) && all is_text_byte (drop text_code_size w)

-- row k has the form, and a code that no row before it has
unfoldable pub text_row_ok : List ℕ → ℕ → Bool
text_row_ok t k = text_form (text_row t k) && every k (λ j. not (eqb (text_code (text_row t j)) (text_code (text_row t k))))

-- a list is of that form, and has no code twice
unfoldable pub texts_ok : List ℕ → Bool
texts_ok t = eqb (length t % text_row_size) 0 && every (text_count t) (text_row_ok t)

-- the number of the row that has a code among the first n rows, counted from 1; 0 where none has it
unfoldable pub row_among : ℕ → List ℕ → ℕ → ℕ
row_among n t code = let k = least n (λ j. eqb (text_code (text_row t j)) code) in cond (ltb k n) (suc k) 0

-- the same among all rows; 0 where the list does not hold the code
abbrev pub row_number : List ℕ → ℕ → ℕ
row_number t code = row_among (text_count t) t code

abbrev pub holds_text : List ℕ → ℕ → Bool
holds_text t code = ltb 0 (row_number t code)

-- how long a text is without its trailing spaces
unfoldable pub trimmed : List ℕ → ℕ
trimmed w = least (length w) (λ n. all is_space (drop n w))

-- the text of row n, counted from 1, and where it begins in the list; the empty part at the list's start where there is no such row
abbrev pub has_row : List ℕ → ℕ → Bool
has_row t n = leb 1 n && leb n (text_count t)

unfoldable pub text_at : List ℕ → ℕ → List ℕ
text_at t n = let w = drop text_code_size (text_row t (n - 1)) in cond (has_row t n) (take (trimmed w) w) []

unfoldable pub text_start : List ℕ → ℕ → ℕ
text_start t n = cond (has_row t n) ((n - 1) * text_row_size + text_code_size) 0

-- "taken from the member's own list where that holds the code, else from ours": the list as it was lent, and the text
abbrev pub source_of : Bor (List ℕ) → Bor (List ℕ) → ℕ → Bor (List ℕ)
source_of member ours code = cond (holds_text member.now code) member ours

unfoldable pub text_of : List ℕ → List ℕ → ℕ → List ℕ
text_of member ours code = let t = cond (holds_text member code) member ours in text_at t (row_number t code)

-- "handed out as part of the list it came from": that text, as a part of that list
abbrev pub HandedOut : Bor (List ℕ) → Bor (List ℕ) → ℕ → Bor (List ℕ) → Type 0
HandedOut member ours code r =
    let t = source_of member ours code in Lies t (text_start t.now (row_number t.now code)) (text_of member.now ours.now code) r
