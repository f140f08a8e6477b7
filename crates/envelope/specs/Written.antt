-- An envelope as it is written: the layout line of document 01, "Envelope", from left to right.
-- Assumes nothing.
use Rattle.std.specs.Prelude.{ℕ, ◌-◌, Bool, true, ◌&&◌, List, [], ◌∷◌, ◌++◌, ◌≡◌, leb, length, Some}
use Rattle.text.specs.declared.Class.TheVariants.{WordByte}
use Rattle.text.specs.Class.{is_word_byte, is_record_byte}
use Rattle.text.specs.Bytes.{all}
use Rattle.text.specs.Text.{bytes}
use Rattle.identifier.specs.Identifier.{name_up_to}
use Rattle.calendar.specs.Calendar.{digits_exactly}
use Rattle.envelope.specs.declared.Parts.{Parts}
use Rattle.envelope.specs.declared.Span.{Span}
use Rattle.envelope.specs.Pieces.{between, run_of}
use Rattle.envelope.specs.Body.{records, crlf, records_of, body_at}
use Rattle.envelope.specs.Envelope.{head_of, tail_of}

-- what an envelope is written from
pub record Envelope : Type 0 where
  pub sender : List ℕ
  pub receiver : List ℕ
  pub date : List ℕ
  pub time : List ℕ
  pub word : List ℕ
  pub class : List ℕ  -- the text behind the control word
  pub records : List (List ℕ)

-- each record with CR LF behind it, then what follows
unfoldable pub lines_then : List (List ℕ) → List ℕ → List ℕ
lines_then [] rest = rest
lines_then (r ∷ rs) rest = r ++ (crlf ++ lines_then rs rest)

unfoldable pub written : Envelope → List ℕ
written e =
    bytes "UNB+UNOA:1+" ++ (e.sender ++ (bytes "+" ++ (e.receiver ++ (bytes "+" ++ (e.date ++ (bytes ":" ++ (e.time ++ (bytes "+"
    ++ (e.word ++ (e.class ++ (crlf ++ lines_then e.records (bytes "'UNT+3+BWA'UNZ+1+" ++ (e.word ++ bytes "'")))))))))))))

-- a control word: 1 to 14 bytes from 0x20 to 0x7E without + ' : ?
abbrev pub control_word : List ℕ → Bool
control_word w = leb 1 (length w) && leb (length w) 14 && all is_word_byte w

abbrev pub all_records : List (List ℕ) → Bool
all_records [] = true
all_records (r ∷ rs) = all is_record_byte r && all_records rs

-- its parts have their forms; the text of the class begins with a byte that a word has not
pub record Formed (e : Envelope) : Type 0 where
  pub sender : name_up_to 8 e.sender ≡ true
  pub receiver : name_up_to 8 e.receiver ≡ true
  pub date : digits_exactly 8 e.date ≡ true
  pub time : digits_exactly 4 e.time ≡ true
  pub word : control_word e.word ≡ true
  pub class : run_of WordByte e.class ≡ 0
  pub records : all_records e.records ≡ true

-- what it is read back as: the parts of its head, its body and its tail, and in them what it was written from
pub record ReadsBack (e : Envelope) (h : Parts) (b : Span) (last : ℕ) : Type 0 where
  pub head : head_of (written e) e.class ≡ Some h
  pub sender : between (written e) h.sender (h.receiver - 1) ≡ e.sender
  pub receiver : between (written e) h.receiver (h.date - 1) ≡ e.receiver
  pub date : between (written e) h.date (h.time - 1) ≡ e.date
  pub time : between (written e) h.time (h.word - 1) ≡ e.time
  pub word : between (written e) h.word h.word_end ≡ e.word
  pub body : body_at (written e) h.end ≡ Some b
  pub records : records_of (between (written e) b.first b.end) ≡ records e.records
  pub count : b.records ≡ length e.records
  pub tail : tail_of (written e) b.end ≡ Some last
  pub last_word : between (written e) last (length (written e) - 1) ≡ e.word
