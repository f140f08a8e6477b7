-- Document 02, Item 4, of the single-record calls: what is booked is not zero, and a ledger with quantity 0 in a filled row is sound and answers as it did.
-- Assumes nothing.
use Prim.Native.Nat.{ℕ, ◌≤◌, ◌<◌}
use native.Mathlib.Decide.{ℕ_discrete}
use mathlib.Core.Bool.{true}
use mathlib.Core.List.{List}
use mathlib.Core.Path.{◌≡◌, ap}
use Rattle.frame.proofs.Consequences.{same_reply}
use Rattle.decimal.specs.Decimal.{decimal_of, value_of}
use Rattle.failures.specs.Failures.{is_empty}
use Rattle.fields.specs.Fields.{field_of}
use Rattle.tables.specs.Tables.{Tables}
use Rattle.tables.specs.Currencies.{is_money}
use Rattle.ledger.specs.Row.{largest_quantity, filled_row}
use Rattle.ledger.specs.Sound.{row_count, bank_count, compartment, rows_of, sound_compartment, sound_ledger}
use Rattle.ledger.specs.Lookup.{free_row, row_by_number, live_row}
use Rattle.ledger.specs.Quantity.{with_quantity_at}
use Rattle.ledger.proofs.LedgerLaws.{flaw_none, sound_part, own_put, other_put, put_sound}
use Rattle.ledger.proofs.QuantityLaws.{quantity_sound, quantity_free, quantity_number, quantity_live}
use Rattle.checks.specs.Booking.{named_row, booking_tests, booking_of}
use Rattle.checks.specs.Verdict.{failures_on}
use Rattle.checks.proofs.PassedLaws.{quantity_passed}
use Rattle.answer.specs.Answer.{answer_bytes}
use Rattle.calls.specs.declared.judging.Formal.{Formal}
use Rattle.calls.specs.Call.{Call, checked_of, row_of, formal_of, step_failures, step_answer}
use Rattle.calls.specs.Rules.{rules}
use Rattle.calls.specs.Quantities.{ledger_with_quantity, AnyQuantity}
use Rattle.calls.proofs.CallLaws.{formal_passed}
use Rattle.calls.proofs.StepLaws.{step_passed, step_cancels}

module _ (tables : Tables) where
  -- A record that is booked has a quantity above zero.
  pub booked_not_zero : (call : Call) (c : List ℕ) → is_empty (step_failures (formal_of tables call) call.«record» c) ≡ true
      → 0 < value_of (decimal_of 15 4 (field_of call.«record» 22))
  booked_not_zero call c passed =
      quantity_passed tables.reporters (is_money tables.currencies) (formal_of tables call).row (field_of call.«record»)
      (formal_passed tables call (step_passed tables call c passed).0).1

  -- a record is answered alike on two compartments in which the same rows are found
  found_alike : (formal : Formal) (s c d : List ℕ) → free_row d ≡ free_row c → ((n : List ℕ) → row_by_number d n ≡ row_by_number c n)
      → ((n : List ℕ) → live_row d n ≡ live_row c n) → step_answer formal s d ≡ step_answer formal s c
  unfolding step_answer step_failures failures_on booking_of booking_tests named_row
  found_alike formal s c d free number live = rw (free, number (field_of s 39), live (field_of s 16))

  -- On every sound ledger, any quantity within its bound in any filled row: the ledger is sound, every call gets the same reply, and the row is cancelled
  -- by a record that names it and is booked.
  pub any_quantity : (l : List ℕ) → sound_ledger l ≡ true → (r k q : ℕ) → r < bank_count → k < row_count → filled_row (rows_of (compartment r l) k) ≡ true
      → q ≤ largest_quantity → AnyQuantity tables r k q l
  unfolding ledger_with_quantity
  any_quantity l h r k q bank row filled bounded =
      record {
        sound = after_sound;
        replies = λ call.
            let p : ℕ = row_of (checked_of tables call) in
            same_reply (rules tables) call after l (flaw_none after after_sound) (flaw_none l h)
            (λ inside. ap answer_bytes (alike (formal_of tables call) call.«record» p inside));
        cancels = λ call passed e. rw e at (step_cancels tables call d d_sound passed (rw e row));
      }
    where
      c : List ℕ
      c = compartment r l

      d : List ℕ
      d = with_quantity_at k q c

      after : List ℕ
      after = ledger_with_quantity r k q l

      c_sound : sound_compartment c ≡ true
      c_sound = sound_part l h r bank

      d_sound : sound_compartment d ≡ true
      d_sound = quantity_sound k q c c_sound row filled bounded

      after_sound : sound_ledger after ≡ true
      after_sound = put_sound l h r bank d d_sound

      alike : (formal : Formal) (s : List ℕ) (p : ℕ) → p < bank_count → step_answer formal s (compartment p after) ≡ step_answer formal s (compartment p l)
      alike formal s p inside = go (ℕ_discrete p r)
        where
          go : Dec (p ≡ r) → step_answer formal s (compartment p after) ≡ step_answer formal s (compartment p l)
          go (yes e) =
              rw (e, own_put l h r bank d d_sound)
              (found_alike formal s c d (quantity_free k q c c_sound row filled) (quantity_number k q c c_sound row filled)
              (quantity_live k q c c_sound row filled))
          go (no n) = ap (step_answer formal s) (other_put l h r bank d d_sound p inside n)
