-- The ledger of zeros is sound: all its rows are free.
-- Assumes nothing.
use Prim.Native.Nat.{ℕ}
use native.Mathlib.Omega.{arith}
use mathlib.Core.Bool.{true}
use mathlib.Core.Path.{◌≡◌, refl, ◌∙◌}
use borrow.Author.Tests.{eq-eqb}
use lib.ListN.{replicate, length-replicate}
use Rattle.frame.proofs.BoolLaws.{and_intro}
use Rattle.frame.proofs.EveryLaws.{every_intro}
use Rattle.frame.proofs.PartLaws.{part_replicate}
use Rattle.text.specs.Bytes.{all}
use Rattle.ledger.specs.Row.{row_size}
use Rattle.ledger.specs.Sound.{Rows, rows_of, row_count, compartment_size, bank_count, ledger_size, sound_row, sound_compartment, sound_ledger}

empty_row : (ρ : Rows) (k : ℕ) → ρ k ≡ replicate row_size 0 → sound_row ρ k ≡ true
unfolding sound_row all
empty_row ρ k e = rw e refl

-- over the count of zeros, so that none is written out
pub empty_compartment : (n : ℕ) → n ≡ compartment_size → sound_compartment (replicate n 0) ≡ true
unfolding sound_compartment
empty_compartment n e =
    and_intro _ _ (eq-eqb _ _ (length-replicate n 0 ∙ e))
    (every_intro row_count _ (λ k h. empty_row (rows_of (replicate n 0)) k (part_replicate row_size k n 0 (omega arith))))

pub empty_ledger_lem : (n : ℕ) → n ≡ ledger_size → sound_ledger (replicate n 0) ≡ true
unfolding sound_ledger
empty_ledger_lem n e =
    and_intro _ _ (eq-eqb _ _ (length-replicate n 0 ∙ e))
    (every_intro bank_count _ (λ r h. rw (part_replicate compartment_size r n 0 (omega arith)) (empty_compartment compartment_size refl)))
