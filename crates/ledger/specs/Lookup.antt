-- What is looked up in a compartment: the lowest free row, rows by their number. A compartment of another length has no row.
-- Assumes nothing.
use Rattle.std.specs.Prelude.{ℕ, ◌≤◌, ◌<◌, Bool, true, false, ◌&&◌, not, cond, List, ◌≡◌, eqb, length}
use Rattle.frame.specs.Every.{least}
use Rattle.text.specs.Bytes.{same}
use Rattle.ledger.specs.declared.Asked.{Asked}
use Rattle.ledger.specs.declared.Asked.TheVariants.{Live, Filled}
use Rattle.ledger.specs.Row.{free, live, state, filled_row, number}
use Rattle.ledger.specs.Sound.{Rows, rows_of, row_count, compartment_size}

-- the first row that passes, 64 where none does
abbrev pub first_row : List ℕ → (ℕ → Bool) → ℕ
first_row c p = cond (eqb (length c) compartment_size) (least row_count p) row_count

-- no row from a row up to another passes
abbrev pub NoneIn : (ℕ → Bool) → ℕ → ℕ → Type 0
NoneIn p from to = (j : ℕ) → from ≤ j → j < to → p j ≡ false

-- r is the first row from a row on that passes, 64 where none does
pub record FirstFrom (p : ℕ → Bool) (from r : ℕ) : Type 0 where
  pub behind : from ≤ r
  pub within : r ≤ row_count
  pub none : NoneIn p from r
  pub hit : r < row_count → p r ≡ true

abbrev pub is_free : Rows → ℕ → Bool
is_free ρ k = eqb (state (ρ k)) free

-- row k has the number n, in whatever state it is
abbrev pub is_named : Rows → List ℕ → ℕ → Bool
is_named ρ n k = same (number (ρ k)) n

abbrev pub has_number : Rows → List ℕ → ℕ → Bool
has_number ρ n k = filled_row (ρ k) && is_named ρ n k

abbrev pub is_live : Rows → List ℕ → ℕ → Bool
is_live ρ n k = eqb (state (ρ k)) live && is_named ρ n k

-- a state that a search for a number asks for: live, or any but free
abbrev pub is_asked : Asked → ℕ → Bool
is_asked Live s = eqb s live
is_asked Filled s = not (eqb s free)

abbrev pub is_asked_row : Asked → Rows → List ℕ → ℕ → Bool
is_asked_row asked ρ n k = is_asked asked (state (ρ k)) && is_named ρ n k

-- the lowest free row
unfoldable pub free_row : List ℕ → ℕ
free_row c = first_row c (is_free (rows_of c))

-- the row with the number n
unfoldable pub row_by_number : List ℕ → List ℕ → ℕ
row_by_number c n = first_row c (has_number (rows_of c) n)

-- the live row with the number n
unfoldable pub live_row : List ℕ → List ℕ → ℕ
live_row c n = first_row c (is_live (rows_of c) n)
