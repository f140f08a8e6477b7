-- "Error file for the sender" of document 02, Item 1: one file from a report, its answers and two lists of texts.
-- Assumes nothing.
use Rattle.std.specs.Prelude.{ℕ, suc, ◌*◌, Bool, ◌&&◌, ◌||◌, not, cond, List, [], ◌∷◌, ◌++◌, ◌≡◌, eqb, leb, length, Result}
use Rattle.frame.specs.Every.{every}
use Rattle.frame.specs.Reply.{Reply, refused, accepted, unless, first_of, past}
use Rattle.refusal.specs.declared.Refusal.{Refusal}
use Rattle.refusal.specs.Refusal.{reply_of}
use Rattle.text.specs.Text.{bytes}
use Rattle.calendar.specs.Calendar.{real_date, real_minute}
use Rattle.failures.specs.Codes.{is_no_code}
use Rattle.answer.specs.Answer.{answer_size, answer_at}
use Rattle.envelope.specs.declared.Layout.{Layout}
use Rattle.envelope.specs.declared.Parts.{Parts}
use Rattle.envelope.specs.declared.Span.{Span}
use Rattle.envelope.specs.Envelope.{file_limit, report_of, sender_of, control_word_of, records_from}
use Rattle.envelope.specs.Written.{Envelope, ReadsBack, written}
use Rattle.page.specs.Number.{code_text}
use Rattle.page.specs.Page.{fitted}
use Rattle.texts.specs.Texts.{texts_ok, holds_text, text_of}

-- "BWAMSERR for BWAMS, BWERR after UNH+BWA+ in place of BWA": the text behind the control word
abbrev pub error_class : List ℕ
error_class = bytes "++BWAMSERR'UNH+BWA+BWERR:0'"

-- the code in the answer to record k, counted from 0: of an answer nothing else is read
abbrev pub code_in : List ℕ → ℕ → ℕ
code_in answers k = (answer_at (k * answer_size) answers).code

-- it is 0, or a place's
abbrev pub known_code : List ℕ → ℕ → Bool
known_code answers k = not (is_no_code (code_in answers k))

-- "16 bytes a record", and none "with a code neither 0 nor a place's"
unfoldable pub answers_ok : ℕ → List ℕ → Bool
answers_ok n answers = eqb (length answers) (n * answer_size) && every n (known_code answers)

module _ (member ours : List ℕ) where
  -- a code that needs no text, or has one in a list
  abbrev pub has_text : ℕ → Bool
  has_text code = eqb code 0 || (holds_text member code || holds_text ours code)

  -- "the four-digit code, a hyphen, its text"
  abbrev pub code_line : ℕ → List ℕ
  code_line code = code_text code ++ bytes "-" ++ text_of member ours code

  -- "each record whose code isn't 0, as received", and its line; the first of the records is number k
  unfoldable pub error_lines : List ℕ → ℕ → List (List ℕ) → List (List ℕ)
  error_lines answers k [] = []
  error_lines answers k (r ∷ rs) =
      let rest = error_lines answers (suc k) rs in cond (eqb (code_in answers k) 0) rest (r ∷ code_line (code_in answers k) ∷ rest)

  module _ (answers date time : List ℕ) where
    -- "envelope as in 01 but sender ATBWA, receiver the old sender, .. the original control word"
    abbrev pub error_envelope : List ℕ → List ℕ → List (List ℕ) → Envelope
    error_envelope oldSender word rs =
        record {
          sender = bytes "ATBWA";
          receiver = oldSender;
          date = date;
          time = time;
          word = word;
          class = error_class;
          records = error_lines answers 0 rs;
        }

    abbrev pub error_text : List ℕ → List ℕ → List (List ℕ) → List ℕ
    error_text oldSender word rs = written (error_envelope oldSender word rs)

    -- the number by which a report of n records is refused for its answers, the lists, the date and the time; 0 for none
    unfoldable pub error_flaw : ℕ → ℕ
    error_flaw n =
        first_of
        (unless (answers_ok n answers) 15
        ∷ unless (texts_ok member && texts_ok ours) 16
        ∷ unless (every n (λ k. has_text (code_in answers k))) 17
        ∷ unless (real_date date && real_minute time) 18
        ∷ [])

    module _ (report : List ℕ) where
      -- the file for an opened report, or its refusal by 15 to 19
      abbrev pub error_for : ℕ → Reply Layout → Reply (List ℕ)
      error_for room (refused n) = refused n
      error_for room (accepted l) =
          past (error_flaw l.records) (fitted room (error_text (sender_of report l) (control_word_of report l) (records_from report l)))

      -- the writer: "after the report's own 1 and 5 to 11"
      unfoldable pub error_file_of : ℕ → Reply (List ℕ)
      error_file_of room = past (unless (leb (length report) file_limit) 1) (error_for room (report_of report))

      -- what an accepted error file is read back as: the parts of its head, its body and its tail, and in them what it was written from
      pub record ErrorReadsBack (text : List ℕ) : Type 0 where
        pub layout : Layout
        pub opened : report_of report ≡ accepted layout
        pub writes : text ≡ error_text (sender_of report layout) (control_word_of report layout) (records_from report layout)
        pub head : Parts
        pub body : Span
        pub last : ℕ
        pub back : ReadsBack (error_envelope (sender_of report layout) (control_word_of report layout) (records_from report layout)) head body last

-- what the writer's result stands for: the number of its refusal; the file's length
abbrev pub wrote_as : Result ℕ Refusal → Reply ℕ
wrote_as = reply_of (λ n. n)
