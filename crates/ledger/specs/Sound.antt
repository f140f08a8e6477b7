-- "Sound ledger" of document 01: what holds of each row, of a compartment and of the ledger.
-- Assumes nothing.
use Rattle.std.specs.Prelude.{ℕ, ◌*◌, ◌<◌, ◌≡◌, Bool, true, ◌&&◌, not, cond, List, eqb, ltb, length}
use Rattle.frame.specs.Every.{every}
use Rattle.frame.specs.Parts.{part}
use Rattle.frame.specs.Reply.{unless}
use Rattle.text.specs.Class.{is_zero}
use Rattle.text.specs.Bytes.{all, same}
use Rattle.ledger.specs.Row.{row_size, free, live, cancelled, cancellation, no_partner, state, filled_row, number, partner, row_form}

-- rows of a compartment, its bytes, compartments of a ledger, its bytes
abbrev pub row_count : ℕ
row_count = 64

abbrev pub compartment_size : ℕ
compartment_size = row_count * row_size

abbrev pub bank_count : ℕ
bank_count = 16

abbrev pub ledger_size : ℕ
ledger_size = bank_count * compartment_size

-- compartment r of a ledger
abbrev pub compartment : ℕ → List ℕ → List ℕ
compartment r l = part compartment_size r l

-- the rows of a compartment, each by its place
abbrev pub Rows : Type 0
Rows = ℕ → List ℕ

abbrev pub rows_of : List ℕ → Rows
rows_of c k = part row_size k c

-- row q has the state s, and points to row k
unfoldable pub points_back : Rows → ℕ → ℕ → ℕ → Bool
points_back ρ q s k = eqb (state (ρ q)) s && eqb (partner (ρ q)) k

-- a live row has no partner; a cancellation points to an earlier cancelled row that points back; a cancelled row has such a partner
unfoldable pub linked : Rows → ℕ → Bool
linked ρ k =
    cond (eqb (state (ρ k)) live) (eqb (partner (ρ k)) no_partner)
    (cond (eqb (state (ρ k)) cancellation) (ltb (partner (ρ k)) k && points_back ρ (partner (ρ k)) cancelled k)
    (ltb k (partner (ρ k)) && (ltb (partner (ρ k)) row_count && points_back ρ (partner (ρ k)) cancellation k)))

-- what holds of each row j before a filled row with the number n: it is filled, and its number is another
unfoldable pub precedes : Rows → List ℕ → ℕ → Bool
precedes ρ n j = filled_row (ρ j) && not (same (number (ρ j)) n)

-- a free row is all zero; a filled row has the form, follows filled rows with other numbers, and is linked as its state asks
unfoldable pub sound_row : Rows → ℕ → Bool
sound_row ρ k = cond (eqb (state (ρ k)) free) (all is_zero (ρ k)) (row_form (ρ k) && (every k (precedes ρ (number (ρ k))) && linked ρ k))

-- row k is one of a compartment, after sound and filled rows; and it has the form besides
pub record AfterSound (ρ : Rows) (k : ℕ) : Type 0 where
  pub within : k < row_count
  pub sound : every k (sound_row ρ) ≡ true
  pub filled : every k (λ j. filled_row (ρ j)) ≡ true

pub record FormAfterSound (ρ : Rows) (k : ℕ) : Type 0 where
  pub after : AfterSound ρ k
  pub form : row_form (ρ k) ≡ true

unfoldable pub sound_compartment : List ℕ → Bool
sound_compartment c = eqb (length c) compartment_size && every row_count (sound_row (rows_of c))

-- the ledger is as document 01 asks
unfoldable pub sound_ledger : List ℕ → Bool
sound_ledger l = eqb (length l) ledger_size && every bank_count (λ r. sound_compartment (compartment r l))

-- the number by which the ledger refuses a call; 0 for none
unfoldable pub ledger_flaw : List ℕ → ℕ
ledger_flaw l = unless (sound_ledger l) 4
