-- The single-record call of document 01: its refusals, its sender check, its answer and its booking.
-- Assumes nothing.
use Rattle.std.specs.Prelude.{ℕ, Bool, ◌&&◌, cond, List, [], ◌∷◌, leb, length, Result, Ok, Err}
use Rattle.frame.specs.Reply.{unless, first_of}
use Rattle.text.specs.Class.{is_record_byte}
use Rattle.text.specs.Bytes.{all}
use Rattle.identifier.specs.Identifier.{name_up_to}
use Rattle.decimal.specs.Decimal.{decimal_of, value_of}
use Rattle.failures.specs.declared.Failures.{Failures}
use Rattle.failures.specs.Failures.{no_failure, is_empty, first_place}
use Rattle.failures.specs.Codes.{code_at}
use Rattle.fields.specs.Fields.{is_whole, field_of}
use Rattle.fields.specs.Forms.{letter}
use Rattle.tables.specs.Tables.{Tables, tables_flaw}
use Rattle.tables.specs.Currencies.{is_money}
use Rattle.booking.specs.Booking.{booked}
use Rattle.sender.specs.Sender.{sender_check}
use Rattle.checks.specs.declared.Booking.{Booking}
use Rattle.checks.specs.Record.{record_failures}
use Rattle.checks.specs.Booking.{booking_of}
use Rattle.checks.specs.Verdict.{failures_on, status_of}
use Rattle.answer.specs.declared.Answer.{Answer}
use Rattle.calls.specs.declared.Call.{Call as Given}
use Rattle.calls.specs.declared.judging.Formal.{Formal}

-- the arguments of a call but for the tables and the ledger
pub record Call : Type 0 where
  pub sender : List ℕ
  pub «record» : List ℕ

-- the largest record, the row of none, no new row
abbrev pub record_limit : ℕ
record_limit = 32768

abbrev pub no_reporter : ℕ
no_reporter = 255

abbrev pub no_row : ℕ
no_row = 65535

-- the record is at most 32,768 bytes, without CR, LF or apostrophe
unfoldable pub record_form : List ℕ → Bool
record_form «record» = leb (length «record») record_limit && all is_record_byte «record»

-- the number by which its sender or its record refuses a call, the first that applies; 0 for none
unfoldable pub call_flaw : Call → ℕ
call_flaw call =
    first_of
    (unless (name_up_to 8 call.sender) 13
    ∷ unless (record_form call.«record») 14
    ∷ [])

-- the number by which a call is refused: 2, 3, 4, 13, 14, the first that applies; 0 for none. The ledger's own number is given
unfoldable pub refusal_of : Tables → Call → ℕ → ℕ
refusal_of tables call held = first_of (tables_flaw tables ∷ held ∷ call_flaw call ∷ [])

-- the sender check of a call's record
unfoldable pub checked_of : Tables → Call → Result ℕ Failures
checked_of tables call =
    sender_check tables.reporters call.sender (is_whole call.«record») (field_of call.«record» 1) (field_of call.«record» 2)

-- the row for which the record passes it, 255 for none; and the failures of places 0 to 6
abbrev pub row_of : Result ℕ Failures → ℕ
row_of (Ok r) = r
row_of (Err failed) = no_reporter

abbrev pub failed_of : Result ℕ Failures → Failures
failed_of (Ok r) = no_failure
failed_of (Err failed) = failed

-- places 0 to 60 by the sender check's finding: where it passes for a row, the failures of 7 to 60; else those of 0 to 6, and no row. F n is field n
abbrev pub formal_in : List ℕ → (List ℕ → Bool) → (ℕ → List ℕ) → Result ℕ Failures → Formal
formal_in reporters money F (Ok row) = record { row = row; failed = record_failures reporters money row F }
formal_in reporters money F (Err failed) = record { row = no_reporter; failed = failed }

unfoldable pub formal_by : List ℕ → (List ℕ → Bool) → List ℕ → Bool → (ℕ → List ℕ) → Formal
formal_by reporters money sender whole F = formal_in reporters money F (sender_check reporters sender whole (F 1) (F 2))

-- places 0 to 60 of a call's record, for the lent tables. The ledger has no part in them
unfoldable pub formal_of : Tables → Call → Formal
formal_of tables call = formal_in tables.reporters (is_money tables.currencies) (field_of call.«record») (checked_of tables call)

-- the answer record of a record: its failures, its reporter's row, the new row, and its length
unfoldable pub answer_of : Failures → ℕ → ℕ → List ℕ → Answer
answer_of failed row new «record» =
    record {
      failed = failed;
      code = code_at (first_place failed);
      row = row;
      status = status_of failed;
      booked = new;
      length = length «record»;
    }

-- "No failure": the free row gets F39, F22's value and F7; the named row, if there is one, is cancelled
unfoldable pub booked_as : ℕ → ℕ → List ℕ → List ℕ → List ℕ
booked_as free named «record» c =
    booked free (field_of «record» 39) (value_of (decimal_of 15 4 (field_of «record» 22))) (letter (field_of «record» 7)) named c

-- A record whose places 0 to 60 are judged, on its bank's compartment: its failures, its answer, and the compartment afterwards.
module _ (formal : Formal) («record» c : List ℕ) where
  abbrev pub found_rows : Booking
  found_rows = booking_of c (field_of «record» 16) (field_of «record» 39)

  unfoldable pub step_failures : Failures
  step_failures = failures_on c formal.failed (field_of «record»)

  unfoldable pub step_answer : Answer
  step_answer = answer_of step_failures formal.row (cond (is_empty step_failures) found_rows.free no_row) «record»

  unfoldable pub step_compartment : List ℕ
  step_compartment = cond (is_empty step_failures) (booked_as found_rows.free found_rows.named «record» c) c

-- the call of a sender with a record
abbrev pub called : List ℕ → List ℕ → Call
called sender «record» = record { sender = sender; «record» = «record» }

-- the call that code is given
abbrev pub sent : Given → Call
sent call = called call.sender.now call.«record».now
