-- The file call of document 01: refusals 1 to 12, and an accepted file as its records called singly, by its sender, in file order: each of them judged and
-- booked, the two in a row (document 02, Item 5).
-- Assumes nothing.
use Rattle.std.specs.Prelude.{ℕ, ◌*◌, List, [], ◌∷◌, ◌++◌, map, leb, length, drop}
use Rattle.frame.specs.Reply.{Reply, refused, accepted, unless, first_of, past}
use Rattle.tables.specs.Tables.{Tables, tables_flaw}
use Rattle.ledger.specs.Sound.{ledger_flaw}
use Rattle.answer.specs.Answer.{answer_size}
use Rattle.envelope.specs.declared.Layout.{Layout}
use Rattle.envelope.specs.Envelope.{file_limit, report_of, sender_of, records_from}
use Rattle.calls.specs.Call.{Call, called}
use Rattle.calls.specs.Judging.{replies_in_a_row, ledger_in_a_row}

-- the number by which a file call is refused for what it is lent: 1, 2, 3, 4, the first that applies; 0 for none. The ledger's own number is given
unfoldable pub lent_refusal : Tables → List ℕ → ℕ → ℕ
lent_refusal tables file held = first_of (unless (leb (length file) file_limit) 1 ∷ tables_flaw tables ∷ held ∷ [])

-- a report's records called singly, by its sender, in file order
unfoldable pub report_calls : List ℕ → Layout → List Call
report_calls file l = map (called (sender_of file l)) (records_from file l)

-- 5 to 11 the envelope, 12 the answer buffer under 16 bytes a record; else the calls that the file stands for
abbrev pub opened_reading : List ℕ → ℕ → Reply Layout → Reply (List Call)
opened_reading file room (refused n) = refused n
opened_reading file room (accepted l) = past (unless (leb (l.records * answer_size) room) 12) (accepted (report_calls file l))

-- what a file call comes to before any record is judged: 1 to 4, then the envelope and the buffer, the first that applies
unfoldable pub reading_of : Tables → List ℕ → ℕ → ℕ → Reply (List Call)
reading_of tables file room held = past (lent_refusal tables file held) (opened_reading file room (report_of file))

-- the answers of replies, one after another
unfoldable pub answers_in : List (Reply (List ℕ)) → List ℕ
answers_in [] = []
answers_in (refused n ∷ ws) = answers_in ws
answers_in (accepted a ∷ ws) = a ++ answers_in ws

-- what a file call returns and leaves
pub record FileOutcome : Type 0 where
  pub reply : Reply ℕ
  pub store : List ℕ
  pub buffer : List ℕ

abbrev pub file_outcome : Reply ℕ → List ℕ → List ℕ → FileOutcome
file_outcome r l a = record { reply = r; store = l; buffer = a }

module _ (tables : Tables) where
  -- refused: nothing is changed. Accepted: the count of records; the ledger and the answers are those of its calls, from the buffer's start; the rest stays
  unfoldable pub carried_out : Reply (List Call) → List ℕ → List ℕ → FileOutcome
  carried_out (refused n) l a = file_outcome (refused n) l a
  carried_out (accepted calls) l a =
      file_outcome (accepted (length calls)) (ledger_in_a_row tables calls l)
      (answers_in (replies_in_a_row tables calls l) ++ drop (length calls * answer_size) a)

  -- the file call
  unfoldable pub file_of : List ℕ → List ℕ → List ℕ → FileOutcome
  file_of file l a = carried_out (reading_of tables file (length a) (ledger_flaw l)) l a
