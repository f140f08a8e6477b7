-- Demand 3 of document 01 for files: a list of single-record calls, booking calls and file calls in any mix.
-- Assumes nothing.
use Rattle.std.specs.Prelude.{ℕ, ◌*◌, true, not, cond, List, [], ◌∷◌, ◌++◌, map, ◌≡◌, eqb, length, take}
use Rattle.frame.specs.Reply.{Reply, refused, accepted, refusal_in, map_reply, past}
use Rattle.frame.specs.Isolation.{single, replies, store_after}
use Rattle.frame.specs.Earlier.{WithEarlier}
use Rattle.text.specs.Bytes.{all}
use Rattle.tables.specs.Tables.{Tables}
use Rattle.answer.specs.Answer.{answer_size}
use Rattle.calls.specs.Call.{Call, refusal_of}
use Rattle.calls.specs.Rules.{rules}
use Rattle.calls.specs.Judging.{earlier_fits, booking_rules, in_a_row}
use Rattle.calls.specs.Demand3.{CallsIsolated}
use Rattle.calls.specs.Filing.{reading_of, file_of, answers_in, FileOutcome}

-- one request to the bureau: a single-record call; a booking call with its earlier answer; or a file call with the answer buffer that is lent
pub data Request : Type 0 where
  record_call : Call → Request
  book_call : WithEarlier Call → Request
  file_call : List ℕ → List ℕ → Request

-- the answers in a buffer after a file call: 16 bytes a record from its start
abbrev pub answers_of : FileOutcome → List ℕ
answers_of o = in_buffer o.reply
  where
    in_buffer : Reply ℕ → List ℕ
    in_buffer (refused n) = []
    in_buffer (accepted n) = take (n * answer_size) o.buffer

module _ (tables : Tables) where
  -- what a request leaves, answers and returns, on the ledger as it then is: the number of its refusal, or how many answers it gives
  abbrev pub request_store : Request → List ℕ → List ℕ
  request_store (record_call c) l = (in_a_row tables c l).store
  request_store (book_call b) l = (single (booking_rules tables) b l).store
  request_store (file_call file a) l = (file_of tables file l a).store

  abbrev pub request_answers : Request → List ℕ → List ℕ
  request_answers (record_call c) l = answers_in ((in_a_row tables c l).reply ∷ [])
  request_answers (book_call b) l = answers_in ((single (booking_rules tables) b l).reply ∷ [])
  request_answers (file_call file a) l = answers_of (file_of tables file l a)

  abbrev pub request_reply : Request → List ℕ → Reply ℕ
  request_reply (record_call c) l = map_reply (λ a. 1) (in_a_row tables c l).reply
  request_reply (book_call b) l = map_reply (λ a. 1) (single (booking_rules tables) b l).reply
  request_reply (file_call file a) l = (file_of tables file l a).reply

  -- a list of requests, each on the ledger that the last one left
  abbrev pub store_over : List Request → List ℕ → List ℕ
  store_over [] l = l
  store_over (q ∷ qs) l = store_over qs (request_store q l)

  abbrev pub answers_over : List Request → List ℕ → List ℕ
  answers_over [] l = []
  answers_over (q ∷ qs) l = request_answers q l ++ answers_over qs (request_store q l)

  abbrev pub replies_over : List Request → List ℕ → List (Reply ℕ)
  replies_over [] l = []
  replies_over (q ∷ qs) l = request_reply q l ∷ replies_over qs (request_store q l)

  -- the single-record calls that a request stands for, the ledger being sound: none for a booking whose earlier answer does not fit, or a refused file
  abbrev pub calls_of : Reply (List Call) → List Call
  calls_of (refused n) = []
  calls_of (accepted calls) = calls

  abbrev pub request_calls : Request → List Call
  request_calls (record_call c) = c ∷ []
  request_calls (book_call b) = cond (earlier_fits tables b.call b.earlier) (b.call ∷ []) []
  request_calls (file_call file a) = calls_of (reading_of tables file (length a) 0)

  abbrev pub calls_over : List Request → List Call
  calls_over [] = []
  calls_over (q ∷ qs) = request_calls q ++ calls_over qs

  -- what a request returns on every sound ledger
  abbrev pub sound_reply : Request → Reply ℕ
  sound_reply (record_call c) = past (refusal_of tables c 0) (accepted 1)
  sound_reply (book_call b) = past ((booking_rules tables).refusal b 0) (accepted 1)
  sound_reply (file_call file a) = map_reply length (reading_of tables file (length a) 0)

  -- The claim: the ledger and the answers are those of the single-record calls that the requests stand for, and demand 3 holds of these; each request
  -- returns what it returns on every sound ledger, and 4 is never among the refusals.
  pub record FilesIsolated (qs : List Request) (l : List ℕ) : Type 0 where
    pub same_store : store_over qs l ≡ store_after (rules tables) (calls_over qs) l
    pub same_answers : answers_over qs l ≡ answers_in (replies (rules tables) (calls_over qs) l)
    pub same_replies : replies_over qs l ≡ map sound_reply qs
    pub never_four : all (λ n. not (eqb n 4)) (map refusal_in (replies_over qs l)) ≡ true
    pub isolated : CallsIsolated tables (calls_over qs) l
