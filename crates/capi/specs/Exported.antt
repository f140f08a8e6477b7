-- What the functions exported for C and Rust return and leave: the calls of documents 01 and 02 by one convention. A call returns 0 where it is carried
-- out, else the number of its refusal, and then leaves every lent byte as it was; what it tells beside that stands in lent words. The two that are never
-- refused return what they tell.
-- Assumes nothing.
use Rattle.std.specs.Prelude.{ℕ, ◌%◌, cond, List, [], ◌∷◌, ◌++◌, ltb, eqb, length, drop, Result, Ok, Err}
use Rattle.frame.specs.Reply.{Reply, refused, accepted}
use Rattle.frame.specs.Isolation.{Outcome, single}
use Rattle.tables.specs.Tables.{Tables}
use Rattle.refusal.specs.declared.Refusal.{Refusal}
use Rattle.answer.specs.declared.Answer.{Answer}
use Rattle.answer.specs.Answer.{answer_size, answer_put}
use Rattle.fields.specs.declared.Place.{Place}
use Rattle.fields.specs.Fields.{field_place}
use Rattle.identifier.specs.Isin.{digit_sum}
use Rattle.error_file.specs.ErrorFile.{error_file_of}
use Rattle.calls.specs.Call.{called}
use Rattle.calls.specs.Judging.{booking, booking_rules, judged_of, in_a_row}
use Rattle.calls.specs.Filing.{FileOutcome, file_of}

-- the number that is returned, and the lent ledger, buffer and words as the call leaves them
pub record Exported : Type 0 where
  pub reply : ℕ
  pub store : List ℕ
  pub buffer : List ℕ
  pub words : List ℕ

abbrev pub exported : ℕ → List ℕ → List ℕ → List ℕ → Exported
exported n l a ws = record { reply = n; store = l; buffer = a; words = ws }

-- the buffer once a reply is told: an answer at its start
abbrev pub told_into : Result Answer Refusal → List ℕ → List ℕ
told_into (Err why) a = a
told_into (Ok w) a = answer_put 0 w a

-- the lent word once a count is told
abbrev pub counted_into : Result ℕ Refusal → ℕ → ℕ
counted_into (Err why) word = word
counted_into (Ok count) word = count

-- a call of one record: the answer's sixteen bytes at the buffer's start. The last of its refusals is 12, a buffer under sixteen bytes
abbrev pub single_reply : Outcome (List ℕ) (List ℕ) → List ℕ → List ℕ → Reply (List ℕ) → Exported
single_reply o l a (refused n) = exported n l a []
single_reply o l a (accepted w) = cond (ltb (length a) answer_size) (exported 12 l a []) (exported 0 o.store (w ++ drop answer_size a) [])

unfoldable pub single_export : Outcome (List ℕ) (List ℕ) → List ℕ → List ℕ → Exported
single_export o l a = single_reply o l a o.reply

-- the old single-record call; and of document 02, Item 5, judging, and booking by an earlier answer
abbrev pub record_export : Tables → List ℕ → List ℕ → List ℕ → List ℕ → Exported
record_export tables sender «record» l a = single_export (in_a_row tables (called sender «record») l) l a

abbrev pub judge_export : Tables → List ℕ → List ℕ → List ℕ → List ℕ → Exported
judge_export tables sender «record» l a = single_export (judged_of tables (called sender «record») l) l a

abbrev pub book_export : Tables → List ℕ → List ℕ → List ℕ → List ℕ → List ℕ → Exported
book_export tables sender «record» earlier l a = single_export (single (booking_rules tables) (booking (called sender «record») earlier) l) l a

-- a file call: its count of records in the lent word
abbrev pub file_reply : FileOutcome → List ℕ → List ℕ → ℕ → Reply ℕ → Exported
file_reply o l a word (refused n) = exported n l a (word ∷ [])
file_reply o l a word (accepted count) = exported 0 o.store o.buffer (count ∷ [])

unfoldable pub file_export : Tables → List ℕ → List ℕ → List ℕ → ℕ → Exported
file_export tables file l a word = let o = file_of tables file l a in file_reply o l a word o.reply

-- the number of a call whose buffer is too short
abbrev pub short_number : ℕ → ℕ
short_number n = cond (eqb n 0) 12 n

-- the field view, which is never refused: where the field starts is returned, and how long it is stands in the lent word
abbrev pub field_numbers : ℕ → ℕ → Place
field_numbers start length = record { start = start; length = length }

abbrev pub field_export : List ℕ → ℕ → Place
field_export «record» n = field_place «record» n

-- the error file of document 02, Item 1: the file at the buffer's start, its length in the lent word. The call is lent no ledger
abbrev pub write_reply : List ℕ → ℕ → Reply (List ℕ) → Exported
write_reply out word (refused n) = exported n [] out (word ∷ [])
write_reply out word (accepted text) = exported 0 [] (text ++ drop (length text) out) (length text ∷ [])

unfoldable pub error_export : List ℕ → List ℕ → List ℕ → List ℕ → List ℕ → List ℕ → List ℕ → ℕ → Exported
error_export report answers member ours date time out word = write_reply out word (error_file_of member ours answers date time report (length out))

-- document 02, Item 3, which is never refused: the sum over the digits that a text becomes, modulo 10
abbrev pub sum_export : List ℕ → ℕ
sum_export text = digit_sum text % 10
