-- The body of an envelope (document 01, "Envelope"): CR LF, then up to the first apostrophe records, each with CR LF behind it.
-- Assumes nothing.
use Rattle.std.specs.Prelude.{ℕ, ◌+◌, cond, List, [], ◌∷◌, leb, length, take, drop, Option, Some, None}
use Rattle.text.specs.declared.Class.TheVariants.{RecordByte, BodyByte}
use Rattle.text.specs.Class.{is_record_byte}
use Rattle.envelope.specs.Pieces.{between, run_of, begins, text_end, on}
use Rattle.envelope.specs.declared.Span.{Span}

abbrev pub crlf : List ℕ
crlf = 13 ∷ 10 ∷ []

-- the records of a body; or that it is not of the layout
pub data Records : Type 0 where
  broken : Records
  records : List (List ℕ) → Records

-- a record more in front
abbrev pub with_record : List ℕ → Records → Records
with_record r broken = broken
with_record r (records rs) = records (r ∷ rs)

-- a byte more at the front of the first record
abbrev pub with_byte : ℕ → Records → Records
with_byte b broken = broken
with_byte b (records []) = broken
with_byte b (records (r ∷ rs)) = records ((b ∷ r) ∷ rs)

-- "zero or more times a record and CR LF"
unfoldable pub records_of : List ℕ → Records
records_of [] = records []
records_of (b ∷ []) = broken
records_of (b ∷ c ∷ s) =
    cond (is_record_byte b) (with_byte b (records_of (c ∷ s)))
    (cond (begins crlf (b ∷ c ∷ s)) (with_record [] (records_of s)) broken)

-- where the first apostrophe from a place of s on stands; the end of s where there is none
abbrev pub apostrophe_from : List ℕ → ℕ → ℕ
apostrophe_from s at = at + run_of BodyByte (drop at s)

-- a body of these records, from its first record to its end
abbrev pub counted : ℕ → ℕ → Records → Option Span
counted first end broken = None
counted first end (records rs) = Some (record { first = first; end = end; records = length rs })

-- the records from a place of s up to the first apostrophe; with none, the body is not of the layout
unfoldable pub lines_at : List ℕ → ℕ → Option Span
lines_at s first =
    let end = apostrophe_from s first in cond (leb (length s) end) None (counted first end (records_of (between s first end)))

-- "the body": CR LF, then those
unfoldable pub body_at : List ℕ → ℕ → Option Span
body_at s at = on (text_end s at crlf) None (lines_at s)

-- the record at a place of s, and the end of its line, CR LF included
abbrev pub record_at : List ℕ → ℕ → List ℕ
record_at s at = take (run_of RecordByte (drop at s)) (drop at s)

unfoldable pub line_end : List ℕ → ℕ → Option ℕ
line_end s at = text_end s (at + run_of RecordByte (drop at s)) crlf
