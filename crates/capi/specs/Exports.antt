-- Demand 3 of document 01 for the exported calls: a list of single-record calls, bookings and file calls in any mix, each with the buffer that it is lent.
-- Assumes nothing.
use Rattle.std.specs.Prelude.{ℕ, ◌*◌, true, not, cond, List, [], ◌∷◌, ◌++◌, map, ◌≡◌, eqb, ltb, length, take, get_or}
use Rattle.frame.specs.Reply.{refusal_in}
use Rattle.text.specs.Bytes.{all}
use Rattle.tables.specs.Tables.{Tables}
use Rattle.answer.specs.Answer.{answer_size}
use Rattle.calls.specs.Call.{called, refusal_of}
use Rattle.calls.specs.Judging.{booking, booking_rules}
use Rattle.calls.specs.Filing.{reading_of}
use Rattle.calls.specs.Mixed.{Request, record_call, book_call, file_call, store_over, answers_over, FilesIsolated}
use Rattle.capi.specs.Exported.{Exported, record_export, book_export, file_export, short_number}

-- one exported call that is lent the ledger for writing: sender, record and answer buffer; these with an earlier answer; or file, answer buffer and the word
-- for its count
pub data Export : Type 0 where
  record_exported : List ℕ → List ℕ → List ℕ → Export
  book_exported : List ℕ → List ℕ → List ℕ → List ℕ → Export
  file_exported : List ℕ → List ℕ → ℕ → Export

-- the answer of a call of one record: none where it is refused
abbrev pub one_answer : Exported → List ℕ
one_answer o = cond (eqb o.reply 0) (take answer_size o.buffer) []

module _ (tables : Tables) where
  -- what it returns and leaves, on the ledger as it then is
  abbrev pub export_of : Export → List ℕ → Exported
  export_of (record_exported sender «record» a) l = record_export tables sender «record» l a
  export_of (book_exported sender «record» earlier a) l = book_export tables sender «record» earlier l a
  export_of (file_exported file a word) l = file_export tables file l a word

  -- the answers that it writes from its buffer's start: none where it is refused
  abbrev pub export_answers : Export → List ℕ → List ℕ
  export_answers (record_exported sender «record» a) l = one_answer (record_export tables sender «record» l a)
  export_answers (book_exported sender «record» earlier a) l = one_answer (book_export tables sender «record» earlier l a)
  export_answers (file_exported file a word) l =
      let o = export_of (file_exported file a word) l in cond (eqb o.reply 0) (take (get_or o.words 0 0 * answer_size) o.buffer) []

  -- a list of them, each on the ledger that the last one left
  abbrev pub store_through : List Export → List ℕ → List ℕ
  store_through [] l = l
  store_through (x ∷ xs) l = store_through xs (export_of x l).store

  abbrev pub answers_through : List Export → List ℕ → List ℕ
  answers_through [] l = []
  answers_through (x ∷ xs) l = export_answers x l ++ answers_through xs (export_of x l).store

  abbrev pub replies_through : List Export → List ℕ → List ℕ
  replies_through [] l = []
  replies_through (x ∷ xs) l = (export_of x l).reply ∷ replies_through xs (export_of x l).store

  -- the requests that it stands for: none where its buffer has no room for one answer
  abbrev pub export_requests : Export → List Request
  export_requests (record_exported sender «record» a) = cond (ltb (length a) answer_size) [] (record_call (called sender «record») ∷ [])
  export_requests (book_exported sender «record» earlier a) = cond (ltb (length a) answer_size) [] (book_call (booking (called sender «record») earlier) ∷ [])
  export_requests (file_exported file a word) = file_call file a ∷ []

  abbrev pub requests_over : List Export → List Request
  requests_over [] = []
  requests_over (x ∷ xs) = export_requests x ++ requests_over xs

  -- what it returns on every sound ledger: of one record its number, or that of a buffer too short
  abbrev pub short_or : List ℕ → ℕ → ℕ
  short_or a n = cond (ltb (length a) answer_size) (short_number n) n

  abbrev pub sound_number : Export → ℕ
  sound_number (record_exported sender «record» a) = short_or a (refusal_of tables (called sender «record») 0)
  sound_number (book_exported sender «record» earlier a) = short_or a ((booking_rules tables).refusal (booking (called sender «record») earlier) 0)
  sound_number (file_exported file a word) = refusal_in (reading_of tables file (length a) 0)

  -- The claim: ledger and answers are those of the requests that the calls stand for, and demand 3 holds of these; each call returns what it returns on
  -- every sound ledger, and 4 is never among the replies.
  pub record ExportsIsolated (xs : List Export) (l : List ℕ) : Type 0 where
    pub same_store : store_through xs l ≡ store_over tables (requests_over xs) l
    pub same_answers : answers_through xs l ≡ answers_over tables (requests_over xs) l
    pub same_replies : replies_through xs l ≡ map sound_number xs
    pub never_four : all (λ n. not (eqb n 4)) (replies_through xs l) ≡ true
    pub isolated : FilesIsolated tables (requests_over xs) l
