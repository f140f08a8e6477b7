-- What a call's result stands for in document 01: the number of its refusal; the sixteen bytes of the answer record; a file's count of records.
-- Assumes nothing.
use Rattle.std.specs.Prelude.{ℕ, List, Result}
use Rattle.frame.specs.Reply.{Reply}
use Rattle.frame.specs.Isolation.{Outcome}
use Rattle.refusal.specs.declared.Refusal.{Refusal}
use Rattle.refusal.specs.Refusal.{reply_of}
use Rattle.answer.specs.declared.Answer.{Answer}
use Rattle.answer.specs.Answer.{answer_bytes}

-- of a single-record call
abbrev pub replied_as : Result Answer Refusal → Reply (List ℕ)
replied_as = reply_of answer_bytes

-- of a file call
abbrev pub filed_as : Result ℕ Refusal → Reply ℕ
filed_as = reply_of (λ n. n)

-- a single-record call's reply, and the ledger that it leaves
abbrev pub outcome : Result Answer Refusal → List ℕ → Outcome (List ℕ) (List ℕ)
outcome r l = record { reply = replied_as r; store = l }
