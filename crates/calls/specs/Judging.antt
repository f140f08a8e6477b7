-- Item 5 of document 02: judging, which changes nothing; booking, which takes the record, its sender and the earlier answer; and the two in a row.
-- Assumes nothing.
use Rattle.std.specs.Prelude.{ℕ, Bool, ◌&&◌, List, [], ◌∷◌, map, eqb, length}
use Rattle.frame.specs.Reply.{Reply, refused, accepted}
use Rattle.frame.specs.Isolation.{Rules, Outcome, single}
use Rattle.frame.specs.Earlier.{WithEarlier, with_earlier}
use Rattle.failures.specs.declared.Failures.{Failures}
use Rattle.failures.specs.Failures.{same_set, before_booking}
use Rattle.tables.specs.Tables.{Tables}
use Rattle.answer.specs.Answer.{answer_size, answer_at}
use Rattle.calls.specs.Call.{Call, formal_of}
use Rattle.calls.specs.Rules.{rules}

-- a call with the earlier answer that it is booked by
abbrev pub booking : Call → List ℕ → WithEarlier Call
booking call earlier = record { call = call; earlier = earlier }

-- the earlier answer is sixteen bytes, and its places 0 to 60 are these. Nothing else of it is read
unfoldable pub fits_failures : List ℕ → Failures → Bool
fits_failures earlier failed = eqb (length earlier) answer_size && same_set (before_booking (answer_at 0 earlier).failed) failed

-- the bytes of an answer; none where the call is refused
abbrev pub answer_in : Reply (List ℕ) → List ℕ
answer_in (refused n) = []
answer_in (accepted a) = a

module _ (tables : Tables) where
  -- the earlier answer's places 0 to 60 are this record's
  abbrev pub earlier_fits : Call → List ℕ → Bool
  earlier_fits call earlier = fits_failures earlier (formal_of tables call).failed

  -- booking: refused as the old call is, then by 29; else the old call on the ledger as it then is, places 61 to 63 judged again
  abbrev pub booking_rules : Rules
  booking_rules = with_earlier (rules tables) earlier_fits 29

  -- judging: the old call's answer, and the ledger as it was
  unfoldable pub judged_of : Call → List ℕ → Outcome (List ℕ) (List ℕ)
  judged_of call l = record { reply = (single (rules tables) call l).reply; store = l }

  -- the two in a row: judging, then booking by its answer
  unfoldable pub in_a_row : Call → List ℕ → Outcome (List ℕ) (List ℕ)
  in_a_row call l = single booking_rules (booking call (answer_in (judged_of call l).reply)) l

  -- a list of calls, each as the two in a row on the ledger that the last one left
  abbrev pub replies_in_a_row : List Call → List ℕ → List (Reply (List ℕ))
  replies_in_a_row [] l = []
  replies_in_a_row (c ∷ cs) l = (in_a_row c l).reply ∷ replies_in_a_row cs (in_a_row c l).store

  abbrev pub ledger_in_a_row : List Call → List ℕ → List ℕ
  ledger_in_a_row [] l = l
  ledger_in_a_row (c ∷ cs) l = ledger_in_a_row cs (in_a_row c l).store

  -- a list of calls, each to be booked by the answer that it was given on a ledger
  abbrev pub judged_on : List ℕ → List Call → List (WithEarlier Call)
  judged_on l calls = map (λ c. booking c (answer_in (judged_of c l).reply)) calls
