-- What is printed of a file call (document 01, "Worked inputs"), of an error file, and of records that are judged without booking.
-- Assumes nothing.
use Rattle.std.specs.Prelude.{ℕ, zero, suc, ◌*◌, Bool, cond, List, [], ◌∷◌, ◌++◌, eqb}
use Rattle.frame.specs.Every.{how_many}
use Rattle.text.specs.Text.{bytes}
use Rattle.failures.specs.Failures.{failure_count}
use Rattle.answer.specs.declared.Answer.{Answer}
use Rattle.answer.specs.Answer.{answer_size, answer_at}
use Rattle.page.specs.Number.{number_text, code_text}

-- the end of a line
abbrev pub line_feed : List ℕ
line_feed = 10 ∷ []

-- "reporter row or `-`"
unfoldable pub row_text : ℕ → List ℕ
row_text row = cond (eqb row 255) (bytes "-") (number_text row)

-- "A line is number, first code, failures, reporter row or `-`."
unfoldable pub line_text : ℕ → Answer → List ℕ
line_text number a =
    number_text number ++ bytes " " ++ code_text a.code ++ bytes " " ++ number_text (failure_count a.failed) ++ bytes " " ++ row_text a.row
    ++ line_feed

-- the lines of n records, numbered from 1
unfoldable pub lines_text : ℕ → List ℕ → List ℕ
lines_text zero answers = []
lines_text (suc n) answers = lines_text n answers ++ line_text (suc n) (answer_at (n * answer_size) answers)

-- how many of n records are booked: those of status 0
abbrev pub is_booked : List ℕ → ℕ → Bool
is_booked answers k = eqb (answer_at (k * answer_size) answers).status 0

unfoldable pub booked_count : ℕ → List ℕ → ℕ
booked_count n answers = how_many n (is_booked answers)

-- of a file that is accepted, with n records
unfoldable pub accepted_text : ℕ → List ℕ → List ℕ
accepted_text n answers =
    bytes "records " ++ number_text n ++ line_feed ++ lines_text n answers ++ bytes "booked " ++ number_text (booked_count n answers) ++ line_feed

-- "A refused file prints `refused` and its number"
unfoldable pub refused_text : ℕ → List ℕ
refused_text n = bytes "refused " ++ number_text n ++ line_feed

-- of an error file that is written (document 02, Item 1): its length
unfoldable pub written_text : ℕ → List ℕ
written_text n = bytes "written " ++ number_text n ++ line_feed

-- of records that are judged without booking (document 02, Item 5): a record that is refused, by its number and that of its refusal
unfoldable pub refused_line_text : ℕ → ℕ → List ℕ
refused_line_text number refusal = number_text number ++ bytes " refused " ++ number_text refusal ++ line_feed

-- and, last, how many of them would be booked
unfoldable pub would_book_text : ℕ → List ℕ
would_book_text count = bytes "would book " ++ number_text count ++ line_feed
