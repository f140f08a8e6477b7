-- What became of a record, by the place of its first failure; and which of its failures are before the booking.
-- Assumes nothing.
use Prim.Native.Nat.{ℕ, ◌^◌, ◌<◌}
use native.Mathlib.Omega.{arith}
use mathlib.Core.Bool.{Bool, true, false, cond}
use mathlib.Core.List.{List}
use mathlib.Core.Path.{◌≡◌, refl, sym, ◌∙◌}
use Rattle.failures.specs.declared.Failures.{Failures}
use Rattle.failures.specs.Failures.{is_empty, before_booking}
use Rattle.failures.proofs.FailureLaws.{empty_none, set_small, before_same, before_none, before_small}
use Rattle.checks.specs.Record.{record_tests, record_failures}
use Rattle.checks.specs.Booking.{booking_tests, booking_of}
use Rattle.checks.specs.Verdict.{failures_on}
use Rattle.checks.proofs.RecordLaws.{record_length}

-- the failures of places 7 to 60 are all before the booking
pub record_before : (reporters : List ℕ) (money : List ℕ → Bool) (row : ℕ) (F : ℕ → List ℕ)
    → before_booking (record_failures reporters money row F) ≡ record_failures reporters money row F
unfolding record_failures
record_before reporters money row F = before_same (record_tests reporters money row F) 7 (rw record_length (omega arith))

-- of all that a record fails on a compartment, those of places 0 to 60 are before the booking; and all of them fit a word
module _ (c : List ℕ) (judged : Failures) (F : ℕ → List ℕ) (before : before_booking judged ≡ judged) where
  pub failures_before : before_booking (failures_on c judged F) ≡ judged
  unfolding failures_on booking_of booking_tests
  failures_before = go (is_empty judged) refl
    where
      go : (b : Bool) → is_empty judged ≡ b → before_booking (cond b (booking_of c (F 16) (F 39)).failed judged) ≡ judged
      go true e = before_none (booking_tests c (F 16) (F 39)) (omega arith) ∙ sym (empty_none judged e)
      go false e = before

  pub failures_small : (failures_on c judged F).bits < 2 ^ 64
  unfolding failures_on booking_of booking_tests
  failures_small = go (is_empty judged)
    where
      go : (b : Bool) → (cond b (booking_of c (F 16) (F 39)).failed judged).bits < 2 ^ 64
      go true = set_small (booking_tests c (F 16) (F 39)) 61 (omega arith)
      go false = before_small judged before
