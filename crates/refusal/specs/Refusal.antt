-- The refusals of documents 01 and 02 by their numbers, and a call's result as the reply that those documents speak of.
-- Assumes nothing.
use Rattle.std.specs.Prelude.{ℕ, Result, Ok, Err}
use Rattle.frame.specs.Reply.{Reply, refused, accepted}
use Rattle.refusal.specs.declared.Refusal.{Refusal}
use Rattle.refusal.specs.declared.Refusal.TheVariants as Why

-- the number of a refusal
abbrev pub number_of : Refusal → ℕ
-- over 32,768 bytes
number_of Why.FileSize = 1
-- the reporters table is not as it should be
number_of Why.Reporters = 2
-- nor the currency list
number_of Why.Currencies = 3
-- the ledger is not sound
number_of Why.Ledger = 4
-- head not of the layout
number_of Why.Head = 5
-- date or time of the head not real
number_of Why.Moment = 6
-- receiver is not ATBWA
number_of Why.Receiver = 7
-- body not of the layout
number_of Why.Body = 8
-- tail not of the layout
number_of Why.Tail = 9
-- the two control words differ
number_of Why.ControlWord = 10
-- over 1,024 records
number_of Why.RecordCount = 11
-- the answer buffer is too short
number_of Why.ShortBuffer = 12
-- the sender is no name of 1 to 8 bytes
number_of Why.Sender = 13
-- the record is over 32,768 bytes, or has CR, LF or apostrophe
number_of Why.Record = 14
-- the answers are not those of the report's records
number_of Why.Answers = 15
-- a list of texts is not as it should be
number_of Why.Texts = 16
-- neither list has a code's text
number_of Why.MissingText = 17
-- date or time of the error file not real
number_of Why.ErrorFileMoment = 18
-- no room for the error file
number_of Why.ErrorFileRoom = 19
-- the earlier answer does not fit the record
number_of Why.EarlierAnswer = 29

-- a result as a reply: the number of its refusal; or what it gives, as f says
abbrev pub reply_of : {A B : Type 0} → (A → B) → Result A Refusal → Reply B
reply_of f (Ok a) = accepted (f a)
reply_of f (Err why) = refused (number_of why)

-- the number by which a call is refused, 0 for none
abbrev pub number_in : {A : Type 0} → Result A Refusal → ℕ
number_in (Ok a) = 0
number_in (Err why) = number_of why
