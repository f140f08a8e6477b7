-- What the private functions of the single-record calls ask and promise: of a record whose places 0 to 60 are judged, and of a call that is judged whole.
-- Assumes nothing.
use Rattle.std.specs.Prelude.{ℕ, ◌+◌, ◌≤◌, ◌<◌, true, cond, List, Option, Some, None, ◌≡◌, length}
use Rattle.frame.specs.Parts.{put}
use Rattle.decimal.specs.Decimal.{decimal_of, value_of}
use Rattle.failures.specs.Failures.{is_empty}
use Rattle.fields.specs.Fields.{stops_of, field_place, field_of, bytes_at}
use Rattle.fields.specs.Forms.{letter}
use Rattle.tables.specs.Tables.{Tables}
use Rattle.ledger.specs.Sound.{bank_count, ledger_size, compartment_size, compartment}
use Rattle.booking.specs.Booking.{booked}
use Rattle.checks.specs.Booking.{named_row}
use Rattle.answer.specs.declared.Answer.{Answer}
use Rattle.calls.specs.declared.judging.Formal.{Formal}
use Rattle.calls.specs.declared.judging.Entry.{Entry}
use Rattle.calls.specs.declared.judging.Foreseen.{Foreseen}
use Rattle.calls.specs.Call.{Call, record_limit, formal_of, step_failures, step_answer}

-- a record's row fits an answer and is a bank's where none of places 0 to 60 fails, the record fits an answer too, its index is at hand, and the ledger is of
-- its length
pub record Judged (formal : Formal) («record» stops l : List ℕ) : Type 0 where
  pub row : formal.row < 256
  pub bank : is_empty formal.failed ≡ true → formal.row < bank_count
  pub short : length «record» ≤ record_limit
  pub indexed : stops ≡ stops_of «record»
  pub sized : length l ≡ ledger_size

-- what the booking of a record enters and cancels in a compartment: its number, quantity and side, and the live row that it names
abbrev pub entry_of : List ℕ → List ℕ → Entry
entry_of «record» c =
    record {
      number = field_place «record» 39;
      quantity = value_of (decimal_of 15 4 (field_of «record» 22));
      side = letter (field_of «record» 7);
      named = named_row c (field_of «record» 16);
    }

-- what a record comes to whose places 0 to 60 are judged, on its bank's compartment: its answer; and its entry, where it has no failure
unfoldable pub foreseen_of : Formal → List ℕ → List ℕ → Foreseen
foreseen_of formal «record» c =
    record {
      answer = step_answer formal «record» c;
      entry = cond (is_empty (step_failures formal «record» c)) (Some (entry_of «record» c)) None;
    }

-- what a call that is not refused comes to, all its places judged, on the ledger as it is
abbrev pub foreseen_by : Tables → Call → List ℕ → Foreseen
foreseen_by tables call l = let formal = formal_of tables call in foreseen_of formal call.«record» (compartment formal.row l)

-- what is asked of a booking: the row is a bank's, the ledger of its length, and what is entered lies in the record
abbrev pub Fits : Answer → List ℕ → List ℕ → Option Entry → Type 0
Fits answer «record» l None = Unit {0}
Fits answer «record» l (Some entry) =
    (answer.row < bank_count) × (length l ≡ ledger_size) × (entry.number.start + entry.number.length ≤ length «record»)

abbrev pub Settles : Foreseen → List ℕ → List ℕ → Type 0
Settles foreseen «record» l = Fits foreseen.answer «record» l foreseen.entry

-- the ledger once what is foreseen of a record is carried out: booked in the compartment of its bank, or as it was
abbrev pub entered : Answer → List ℕ → List ℕ → Option Entry → List ℕ
entered answer «record» l None = l
entered answer «record» l (Some entry) =
    put compartment_size answer.row
    (booked answer.booked (bytes_at «record» entry.number) entry.quantity entry.side entry.named (compartment answer.row l)) l

abbrev pub settled : Foreseen → List ℕ → List ℕ → List ℕ
settled foreseen «record» l = entered foreseen.answer «record» l foreseen.entry
