-- The failures of a record on its bank's compartment, once places 0 to 60 are judged; and what became of a record, by its first failure (byte 11 of
-- document 01's answer record).
-- Assumes nothing.
use Rattle.std.specs.Prelude.{ℕ, cond, List, ltb}
use Rattle.failures.specs.declared.Failures.{Failures}
use Rattle.failures.specs.Failures.{is_empty, first_place}
use Rattle.checks.specs.Booking.{booking_of}

-- the failures of places 0 to 60, and 61 to 63 only if all before pass
unfoldable pub failures_on : List ℕ → Failures → (ℕ → List ℕ) → Failures
failures_on c judged F = cond (is_empty judged) (booking_of c (F 16) (F 39)).failed judged

-- 0 booked; 1 places 0-6, 2 places 7-60, 3 places 61-63
unfoldable pub status_at : ℕ → ℕ
status_at place = cond (ltb place 7) 1 (cond (ltb place 61) 2 (cond (ltb place 64) 3 0))

abbrev pub status_of : Failures → ℕ
status_of failed = status_at (first_place failed)
