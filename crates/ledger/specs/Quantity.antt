-- A compartment in which a row has another quantity: by it is stated what document 02, Item 4, says of a stored row with quantity 0.
-- Assumes nothing.
use Rattle.std.specs.Prelude.{ℕ, List}
use Rattle.frame.specs.Parts.{put}
use Rattle.text.specs.Number.{number_put}
use Rattle.ledger.specs.Row.{row_size, quantity_place}
use Rattle.ledger.specs.Sound.{rows_of}

-- the row with the quantity q
unfoldable pub with_quantity : ℕ → List ℕ → List ℕ
with_quantity q w = number_put 8 quantity_place q w

-- the compartment with the quantity q in row k
unfoldable pub with_quantity_at : ℕ → ℕ → List ℕ → List ℕ
with_quantity_at k q c = put row_size k (with_quantity q (rows_of c k)) c
