-- What holds of a record and of a compartment where the checks pass: what a booking asks.
-- Assumes nothing.
use Prim.Native.Nat.{ℕ, ◌+◌, ◌≤◌, ◌<◌}
use native.Mathlib.Omega.{arith}
use mathlib.Core.Bool.{Bool, true, false, ◌&&◌, not, cond, false≢true}
use mathlib.Core.List.{List, ◌++◌}
use mathlib.Core.Path.{◌≡◌, refl, sym, ◌∙◌, subst}
use borrow.Author.Tests.{ltb-true, ltb-false, not-true, not-false}
use lib.Dec.{eqb}
use lib.ListN.{length, get_or}
use lib.Seq.{get_or-append-add}
use Rattle.frame.specs.Every.{least}
use Rattle.frame.proofs.LeastLaws.{least_le}
use Rattle.identifier.specs.Identifier.{name_up_to}
use Rattle.failures.specs.Failures.{is_empty}
use Rattle.failures.proofs.FailureLaws.{none_failed}
use Rattle.fields.specs.Forms.{blank, filled, letter}
use Rattle.ledger.specs.Row.{live, number_room, state, is_side}
use Rattle.ledger.specs.Sound.{row_count, compartment_size, rows_of}
use Rattle.ledger.specs.Lookup.{has_number, free_row, row_by_number, live_row}
use Rattle.ledger.proofs.SoundLaws.{live_row_live}
use Rattle.client.specs.Client.{client_tests}
use Rattle.trade.specs.Trade.{trade_tests}
use Rattle.trade.specs.Instrument.{instrument_tests}
use Rattle.std.specs.Prelude.{Option, Some, None, is_some}
use Rattle.decimal.specs.declared.Amount.{Amount}
use Rattle.decimal.specs.Decimal.{decimal_of, value_of, tells_zero}
use Rattle.decimal.proofs.ZeroLaws.{above_zero}
use Rattle.terms.specs.Terms.{is_positive, terms_tests}
use Rattle.terms.specs.Capacity.{capacity_tests}
use Rattle.terms.specs.Derivative.{derivative_tests}
use Rattle.terms.specs.Marks.{mark_tests}
use Rattle.checks.specs.Record.{client_group, trade_group, instrument_group, terms_group, capacity_group, derivative_group, underlying_group, marks_group}
use Rattle.checks.specs.Record.{record_tests, record_failures}
use Rattle.checks.specs.Booking.{named_row, booking_tests, booking_of}
use Rattle.checks.proofs.RecordLaws.{underlying_length, record_length}

-- a test behind a group of n
behind : (ts us : List Bool) (n k : ℕ) → length ts ≡ n → get_or (ts ++ us) (n + k) false ≡ get_or us k false
behind ts us n k e = subst (λ (m : ℕ). get_or (ts ++ us) (m + k) false ≡ get_or us k false) e (get_or-append-add ts us k false)

-- a quantity at which 33 and 34 pass is above zero
filled_positive : (s : List ℕ) → blank s ≡ false → filled s && not (is_positive 15 4 s) ≡ false → 0 < value_of (decimal_of 15 4 s)
filled_positive s p q = go (decimal_of 15 4 s) refl (rw p at q)
  where
    go : (d : Option Amount) → decimal_of 15 4 s ≡ d → not (is_some d && not (tells_zero d)) ≡ false → 0 < value_of d
    go (Some a) e h = above_zero 15 4 s e (not-true _ (not-false _ h))
    go None e h = absurd (false≢true (sym h))

module _ (reporters : List ℕ) (money : List ℕ → Bool) (row : ℕ) (F : ℕ → List ℕ) (passed : is_empty (record_failures reporters money row F) ≡ true) where
  -- none of places 7 to 60 fails
  none : (k : ℕ) → get_or (record_tests reporters money row F) k false ≡ false
  unfolding record_failures
  none = none_failed (record_tests reporters money row F) 7 passed (rw record_length (omega arith))

  -- 18 passed: F7 is B or S
  pub side_passed : is_side (letter (F 7)) ≡ true
  unfolding record_tests client_group client_tests trade_group trade_tests
  side_passed = not-false _ (none 11)

  -- 33 and 34 passed: F22 is N15,4 and not zero
  pub quantity_passed : 0 < value_of (decimal_of 15 4 (F 22))
  unfolding record_tests client_group trade_group instrument_group terms_group client_tests trade_tests instrument_tests terms_tests
  quantity_passed = filled_positive (F 22) (none 26) (none 27)

  -- 60 passed: F39 is 1 to 16 capitals or digits
  pub number_passed : name_up_to number_room (F 39) ≡ true
  unfolding record_tests client_group trade_group instrument_group terms_group capacity_group derivative_group marks_group client_tests trade_tests instrument_tests
      terms_tests capacity_tests derivative_tests mark_tests
  number_passed = not-false _ (sym (behind (underlying_group F) (marks_group F) 7 1 (underlying_length F)) ∙ none 53)

module _ (c f16 f39 : List ℕ) (passed : is_empty (booking_of c f16 f39).failed ≡ true) where
  -- none of places 61 to 63 fails
  open_booking : (k : ℕ) → get_or (booking_tests c f16 f39) k false ≡ false
  unfolding booking_of booking_tests
  open_booking = none_failed (booking_tests c f16 f39) 61 passed (omega arith)

  numbered_le : row_by_number c f39 ≤ row_count
  unfolding row_by_number
  numbered_le = go (eqb (length c) compartment_size)
    where
      go : (b : Bool) → cond b (least row_count (has_number (rows_of c) f39)) row_count ≤ row_count
      go true = least_le row_count (has_number (rows_of c) f39)
      go false = omega arith

  -- 61 passed: the number is new
  pub number_new : row_by_number c f39 ≡ row_count
  unfolding booking_tests
  number_new = let h = ltb-false (row_by_number c f39) row_count (open_booking 0) in omega (arith, numbered_le)

  -- 63 passed: a row is free
  pub row_free : free_row c < row_count
  unfolding booking_tests
  row_free = ltb-true _ _ (not-false _ (open_booking 2))

-- the row that is cancelled is live
pub named_live : (c f16 : List ℕ) → named_row c f16 < row_count → state (rows_of c (named_row c f16)) ≡ live
unfolding named_row
named_live c f16 = go (blank f16)
  where
    go : (b : Bool) → cond b row_count (live_row c f16) < row_count → state (rows_of c (cond b row_count (live_row c f16))) ≡ live
    go true h = absurd (omega arith)
    go false h = live_row_live c f16 h
