-- "A stored row with quantity 0 remains sound" of document 02, Item 4: what is claimed of a ledger in which a filled row has any quantity, 0 included.
-- Assumes nothing.
use Rattle.std.specs.Prelude.{ℕ, true, List, ◌≡◌}
use Rattle.frame.specs.Parts.{put}
use Rattle.frame.specs.Isolation.{single}
use Rattle.failures.specs.Failures.{is_empty}
use Rattle.fields.specs.Fields.{field_of}
use Rattle.tables.specs.Tables.{Tables}
use Rattle.ledger.specs.Row.{cancelled, state}
use Rattle.ledger.specs.Sound.{compartment_size, compartment, rows_of, sound_ledger}
use Rattle.ledger.specs.Quantity.{with_quantity_at}
use Rattle.checks.specs.Booking.{named_row}
use Rattle.calls.specs.Call.{Call, formal_of, step_failures, step_compartment}
use Rattle.calls.specs.Rules.{rules}

-- the ledger with the quantity q in row k of bank r
unfoldable pub ledger_with_quantity : ℕ → ℕ → ℕ → List ℕ → List ℕ
ledger_with_quantity r k q l = put compartment_size r (with_quantity_at k q (compartment r l)) l

pub record AnyQuantity (tables : Tables) (r k q : ℕ) (l : List ℕ) : Type 0 where
  -- it is sound
  pub sound : sound_ledger (ledger_with_quantity r k q l) ≡ true
  -- every call gets the reply that it gets without it, one that names the row too
  pub replies : (call : Call) → (single (rules tables) call (ledger_with_quantity r k q l)).reply ≡ (single (rules tables) call l).reply
  -- and a record that names the row and is booked leaves it cancelled
  pub cancels : (call : Call) → let c = with_quantity_at k q (compartment r l) in
      is_empty (step_failures (formal_of tables call) call.«record» c) ≡ true → named_row c (field_of call.«record» 16) ≡ k
      → state (rows_of (step_compartment (formal_of tables call) call.«record» c) k) ≡ cancelled
