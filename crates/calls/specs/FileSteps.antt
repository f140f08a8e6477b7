-- What the private functions of the file call ask and promise: of one record of a body, and of all its records.
-- Assumes nothing.
use Rattle.std.specs.Prelude.{ℕ, ◌+◌, ◌*◌, ◌≤◌, ◌<◌, List, [], ◌∷◌, map, Some, None, ◌≡◌, length, drop}
use Rattle.frame.specs.Isolation.{single}
use Rattle.frame.specs.Parts.{put}
use Rattle.tables.specs.Tables.{Tables}
use Rattle.ledger.specs.Sound.{ledger_flaw}
use Rattle.answer.specs.Answer.{answer_size}
use Rattle.envelope.specs.Body.{records, records_of, record_at, line_end}
use Rattle.envelope.specs.Envelope.{listed}
use Rattle.calls.specs.Call.{Call, called, refusal_of}
use Rattle.calls.specs.Rules.{rules}
use Rattle.calls.specs.Filing.{answers_in}

-- the calls, by a sender, of the records of a body from a place on
abbrev pub calls_from : List ℕ → List ℕ → ℕ → List Call
calls_from sender body at = map (called sender) (listed (records_of (drop at body)))

module _ (tables : Tables) where
  -- no call of the list is refused, the ledger being sound
  abbrev pub Admitted : List Call → Type 0
  Admitted [] = Unit {0}
  Admitted (c ∷ cs) = (refusal_of tables c 0 ≡ 0) × Admitted cs

  module _ (sender body : List ℕ) where
    -- a record stands at a place of the body, its call is not refused, and there is room for answer k
    pub record Ready (at k : ℕ) (l a : List ℕ) : Type 0 where
      pub more : at < length body
      pub line : line_end body at ≡ None → ⊥
      pub admitted : refusal_of tables (called sender (record_at body at)) (ledger_flaw l) ≡ 0
      pub room : k * answer_size + answer_size ≤ length a

    -- that record was called singly, its answer is number k, and the next record stands at another place
    pub record Taken (at k : ℕ) (l a : List ℕ) (next : ℕ) (l' a' : List ℕ) : Type 0 where
      pub line : line_end body at ≡ Some next
      pub store : l' ≡ (single (rules tables) (called sender (record_at body at)) l).store
      pub buffer : a' ≡ put answer_size k (answers_in ((single (rules tables) (called sender (record_at body at)) l).reply ∷ [])) a

    -- the body is of the layout from a place on, where k of its records are behind, none of its calls is refused, the ledger is sound, and for the answers
    -- there is room
    pub record Open (count at k : ℕ) (l a : List ℕ) : Type 0 where
      pub whole : records_of (drop at body) ≡ records (listed (records_of (drop at body)))
      pub counted : k + length (calls_from sender body at) ≡ count
      pub admitted : Admitted (calls_from sender body at)
      pub in_order : ledger_flaw l ≡ 0
      pub room : count * answer_size ≤ length a
