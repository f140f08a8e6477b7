-- Places 61 to 63 of document 01, on the compartment as it stands: F16, the number of the row that is cancelled, and F39, the number of the report.
-- Assumes nothing.
use Rattle.std.specs.Prelude.{ℕ, Bool, ◌&&◌, not, cond, List, [], ◌∷◌, ltb}
use Rattle.failures.specs.Failures.{added_from, no_failure}
use Rattle.fields.specs.Forms.{blank, filled}
use Rattle.ledger.specs.Sound.{row_count}
use Rattle.ledger.specs.Lookup.{free_row, row_by_number, live_row}
use Rattle.checks.specs.declared.Booking.{Booking}

-- a row was found
abbrev pub is_row : ℕ → Bool
is_row k = ltb k row_count

-- the live row that F16 names; no row for a blank F16
unfoldable pub named_row : List ℕ → List ℕ → ℕ
named_row c f16 = cond (blank f16) row_count (live_row c f16)

unfoldable pub booking_tests : List ℕ → List ℕ → List ℕ → List Bool
booking_tests c f16 f39 =
    -- 61 9392 F39 is already a number of the compartment
    is_row (row_by_number c f39)
    -- 62 0161 F16 filled, and no live row there has that number
    ∷ (filled f16 && not (is_row (named_row c f16)))
    -- 63 9900 all 64 rows filled
    ∷ not (is_row (free_row c))
    ∷ []

-- what places 61 to 63 find: the set of those that fail, the lowest free row, and the live row that F16 names
unfoldable pub booking_of : List ℕ → List ℕ → List ℕ → Booking
booking_of c f16 f39 = record { failed = added_from no_failure 61 (booking_tests c f16 f39); free = free_row c; named = named_row c f16 }
