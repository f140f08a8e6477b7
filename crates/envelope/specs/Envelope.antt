-- "Envelope" of document 01: the head, the body and the tail of a report file, and refusals 5 to 11, one stage each, in the order of the table.
-- Assumes nothing.
use Rattle.std.specs.Prelude.{ℕ, ◌-◌, ◌<◌, ◌≤◌, ◌&&◌, cond, List, [], eqb, ltb, length, Option, Some, None, Result}
use Rattle.frame.specs.Reply.{Reply, refused, accepted}
use Rattle.refusal.specs.declared.Refusal.{Refusal}
use Rattle.refusal.specs.Refusal.{reply_of}
use Rattle.text.specs.declared.Class.TheVariants.{Digit, CapitalOrDigit, WordByte}
use Rattle.text.specs.Bytes.{same}
use Rattle.text.specs.Text.{bytes}
use Rattle.calendar.specs.Calendar.{real_date, real_minute}
use Rattle.envelope.specs.declared.Parts.{Parts}
use Rattle.envelope.specs.declared.Span.{Span}
use Rattle.envelope.specs.declared.Layout.{Layout}
use Rattle.envelope.specs.Pieces.{between, text_end, part_end, part_then, on}
use Rattle.envelope.specs.Body.{Records, broken, records, body_at, records_of}

-- the largest file, and the most records of one
abbrev pub file_limit : ℕ
file_limit = 32768

abbrev pub record_count_limit : ℕ
record_count_limit = 1024

-- the text behind the control word of a report: the message class, and the message's own head
abbrev pub report_class : List ℕ
report_class = bytes "++BWAMS'UNH+BWA+BWA:0'"

-- UNB+UNOA:1+Sender+Receiver+YYYYMMDD:HHMM+Word, then the text of the class
unfoldable pub head_of : List ℕ → List ℕ → Option Parts
head_of s class =
    on (text_end s 0 (bytes "UNB+UNOA:1+")) None (λ sender.
    on (part_then s sender CapitalOrDigit 1 8 (bytes "+")) None (λ receiver.
    on (part_then s receiver CapitalOrDigit 1 8 (bytes "+")) None (λ date.
    on (part_then s date Digit 8 8 (bytes ":")) None (λ time.
    on (part_then s time Digit 4 4 (bytes "+")) None (λ word.
    on (part_end s word WordByte 1 14) None (λ word_end.
    on (text_end s word_end class) None (λ end.
    Some (record { sender = sender; receiver = receiver; date = date; time = time; word = word; word_end = word_end; end = end }))))))))

-- 'UNT+3+BWA'UNZ+1+Word', then the end of the file: where the word begins
unfoldable pub tail_of : List ℕ → ℕ → Option ℕ
tail_of s at =
    on (text_end s at (bytes "'UNT+3+BWA'UNZ+1+")) None (λ word.
    on (part_then s word WordByte 1 14 (bytes "'")) None (λ end.
    cond (eqb end (length s)) (Some word) None))

-- the parts of a head lie one after another within the file
pub record Ordered (s : List ℕ) (h : Parts) : Type 0 where
  pub sender : h.sender < h.receiver
  pub receiver : h.receiver < h.date
  pub date : h.date < h.time
  pub time : h.time < h.word
  pub word : h.word ≤ h.word_end
  pub word_end : h.word_end ≤ h.end
  pub end : h.end ≤ length s

-- where the sender, the control word and the records of a report lie, and how many records it has
abbrev pub layout_of : Parts → Span → Layout
layout_of h b =
    record {
      sender = h.sender;
      sender_end = h.receiver - 1;
      word = h.word;
      word_end = h.word_end;
      first = b.first;
      end = b.end;
      records = b.records;
    }

-- 11 over 1,024 records
abbrev pub count_stage : List ℕ → Parts → Span → Reply Layout
count_stage s h b = cond (ltb record_count_limit b.records) (refused 11) (accepted (layout_of h b))

-- 10 the two words differ
abbrev pub word_stage : List ℕ → Parts → Span → ℕ → Reply Layout
word_stage s h b word =
    cond (same (between s h.word h.word_end) (between s word (length s - 1))) (count_stage s h b) (refused 10)

-- 9 tail not of the layout, word form included
abbrev pub tail_stage : List ℕ → Parts → Span → Reply Layout
tail_stage s h b = on (tail_of s b.end) (refused 9) (word_stage s h b)

-- 8 body not of the layout
unfoldable pub body_stage : List ℕ → Parts → Reply Layout
body_stage s h = on (body_at s h.end) (refused 8) (tail_stage s h)

-- 7 receiver is not ATBWA
abbrev pub receiver_stage : List ℕ → Parts → Reply Layout
receiver_stage s h = cond (same (between s h.receiver (h.date - 1)) (bytes "ATBWA")) (body_stage s h) (refused 7)

-- 6 date not real in 2000 to 2099, or time not 0000 to 2359 with minutes to 59
abbrev pub date_stage : List ℕ → Parts → Reply Layout
date_stage s h =
    cond (real_date (between s h.date (h.time - 1)) && real_minute (between s h.time (h.word - 1))) (receiver_stage s h) (refused 6)

-- 5 head not of the layout, date and time digits included
unfoldable pub envelope_of : List ℕ → List ℕ → Reply Layout
envelope_of class s = on (head_of s class) (refused 5) (date_stage s)

-- a report file
abbrev pub report_of : List ℕ → Reply Layout
report_of s = envelope_of report_class s

-- what an opened file stands for: the number of its refusal, 5 to 11; or a report, whose sender, control word and records are those below
abbrev pub opened_as : Result Layout Refusal → Reply Layout
opened_as = reply_of (λ l. l)

-- the sender, the control word and the records of a report
abbrev pub sender_of : List ℕ → Layout → List ℕ
sender_of s l = between s l.sender l.sender_end

abbrev pub control_word_of : List ℕ → Layout → List ℕ
control_word_of s l = between s l.word l.word_end

abbrev pub listed : Records → List (List ℕ)
listed broken = []
listed (records rs) = rs

unfoldable pub records_from : List ℕ → Layout → List (List ℕ)
records_from s l = listed (records_of (between s l.first l.end))
