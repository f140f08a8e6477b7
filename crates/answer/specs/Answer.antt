-- "Answer record" of document 01: sixteen bytes, integers little-endian.
-- Assumes nothing.
use Rattle.std.specs.Prelude.{ℕ, ◌+◌, cond, List, ◌∷◌, ◌++◌, leb, length, get_or, take, drop}
use Rattle.text.specs.Number.{low_bytes, number_at}
use Rattle.failures.specs.Failures.{no_failure}
use Rattle.answer.specs.declared.Answer.{Answer}

-- bytes of an answer record
abbrev pub answer_size : ℕ
answer_size = 16

-- bytes 0-7 the set of failed checks, 8-9 the code, 10 the reporter row, 11 what became of the record, 12-13 the new row, 14-15 the record's length
unfoldable pub answer_bytes : Answer → List ℕ
answer_bytes a =
    low_bytes 8 a.failed.bits ++ (low_bytes 2 a.code ++ (a.row ∷ a.status ∷ (low_bytes 2 a.booked ++ low_bytes 2 a.length)))

-- the list with an answer record from a place on; as it was where there is no room
unfoldable pub answer_put : ℕ → Answer → List ℕ → List ℕ
answer_put at a s = cond (leb (at + answer_size) (length s)) (take at s ++ (answer_bytes a ++ drop answer_size (drop at s))) s

-- an answer record of zeros
abbrev pub zero_answer : Answer
zero_answer = record { failed = no_failure; code = 0; row = 0; status = 0; booked = 0; length = 0 }

-- the answer record from a place on; zeros where it is not all there
unfoldable pub answer_at : ℕ → List ℕ → Answer
answer_at at s =
    cond (leb (at + answer_size) (length s))
    (record {
      failed = record { bits = number_at 8 at s };
      code = number_at 2 (at + 8) s;
      row = get_or s (at + 10) 0;
      status = get_or s (at + 11) 0;
      booked = number_at 2 (at + 12) s;
      length = number_at 2 (at + 14) s;
    })
    zero_answer
