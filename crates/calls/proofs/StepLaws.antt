-- The step keeps a sound compartment sound, and leaves the row that it names cancelled: what its checks have passed is what a booking asks.
-- Assumes nothing.
use Prim.Native.Nat.{ℕ, ◌≤◌, ◌<◌}
use native.Mathlib.Omega.{arith}
use mathlib.Core.Bool.{Bool, true, false, cond, false≢true}
use mathlib.Core.List.{List}
use mathlib.Core.Path.{◌≡◌, refl, sym, ◌∙◌}
use Rattle.decimal.specs.Decimal.{decimal_of, value_of}
use Rattle.decimal.proofs.DecimalLaws.{value_below}
use Rattle.failures.specs.Failures.{is_empty}
use Rattle.fields.specs.Fields.{field_of}
use Rattle.fields.specs.Forms.{letter}
use Rattle.tables.specs.Currencies.{is_money}
use Rattle.tables.specs.Tables.{Tables}
use Rattle.identifier.specs.Identifier.{name_up_to}
use Rattle.ledger.specs.Row.{live, cancelled, number_room, largest_quantity, state, is_side}
use Rattle.ledger.specs.Sound.{row_count, rows_of, sound_compartment}
use Rattle.ledger.specs.Lookup.{free_row, row_by_number}
use Rattle.booking.proofs.BookingLaws.{booked_sound, named_cancelled}
use Rattle.checks.specs.Booking.{named_row, booking_of}
use Rattle.checks.specs.Verdict.{failures_on}
use Rattle.checks.proofs.PassedLaws.{side_passed, number_passed, number_new, row_free, named_live}
use Rattle.calls.specs.declared.judging.Formal.{Formal}
use Rattle.calls.specs.Call.{Call, formal_of, booked_as, step_failures, step_compartment}
use Rattle.calls.proofs.CallLaws.{formal_passed}

module _ (tables : Tables) (call : Call) (c : List ℕ) where
  abbrev s : List ℕ
  s = call.«record»

  abbrev formal : Formal
  formal = formal_of tables call

  -- a step without failure has none at places 0 to 60, and none at 61 to 63
  pub step_passed : is_empty (step_failures formal s c) ≡ true
      → (is_empty formal.failed ≡ true) × (is_empty (booking_of c (field_of s 16) (field_of s 39)).failed ≡ true)
  unfolding step_failures failures_on
  step_passed = go (is_empty formal.failed) refl
    where
      go : (b : Bool) → is_empty formal.failed ≡ b → is_empty (cond b (booking_of c (field_of s 16) (field_of s 39)).failed formal.failed) ≡ true
          → (is_empty formal.failed ≡ true) × (is_empty (booking_of c (field_of s 16) (field_of s 39)).failed ≡ true)
      go true e h = (e, h)
      go false e h = absurd (false≢true (sym e ∙ h))

  abbrev number : List ℕ
  number = field_of s 39

  abbrev quantity : ℕ
  quantity = value_of (decimal_of 15 4 (field_of s 22))

  abbrev side : ℕ
  side = letter (field_of s 7)

  abbrev named : ℕ
  named = named_row c (field_of s 16)

  -- such a step has all that a law of bookings asks
  asked : {A : Type 0} → is_empty (step_failures formal s c) ≡ true
      → (name_up_to number_room number ≡ true → quantity ≤ largest_quantity → is_side side ≡ true → free_row c ≡ free_row c → free_row c < row_count
      → row_by_number c number ≡ row_count → (named < row_count → state (rows_of c named) ≡ live) → A)
      → A
  asked e law =
      let passed = step_passed e in
      let judged = (formal_passed tables call passed.0).1 in
      law (number_passed tables.reporters (is_money tables.currencies) formal.row (field_of s) judged) (omega (arith, value_below 15 4 (field_of s 22)))
      (side_passed tables.reporters (is_money tables.currencies) formal.row (field_of s) judged) refl
      (row_free c (field_of s 16) number passed.1) (number_new c (field_of s 16) number passed.1) (named_live c (field_of s 16))

  pub step_sound : sound_compartment c ≡ true → sound_compartment (step_compartment formal s c) ≡ true
  unfolding step_compartment booked_as booking_of
  step_sound sound = go (is_empty (step_failures formal s c)) refl
    where
      go : (b : Bool) → is_empty (step_failures formal s c) ≡ b → sound_compartment (cond b (booked_as (free_row c) named s c) c) ≡ true
      go true e = asked e (booked_sound (free_row c) number quantity side named c sound)
      go false e = sound

  pub step_cancels : sound_compartment c ≡ true → is_empty (step_failures formal s c) ≡ true → named < row_count
      → state (rows_of (step_compartment formal s c) named) ≡ cancelled
  unfolding step_compartment booked_as booking_of
  step_cancels sound e h = rw e (asked e (named_cancelled (free_row c) number quantity side named c sound) h)
