-- Slots, by which the soundness check tells most numbers apart: rows of two slots have two numbers. Document 01 does not speak of them.
-- Assumes nothing.
use Rattle.std.specs.Prelude.{ℕ, ◌%◌, ◌<◌, List, ◌≢◌}
use Rattle.std.specs.Int.Bits.{bit_xor}
use Rattle.text.specs.Number.{number_at}
use Rattle.ledger.specs.Sound.{Rows}

abbrev pub slot_count : ℕ
slot_count = 499

-- the slot of a row, by the two words that its number is written in
unfoldable pub slot_of : List ℕ → ℕ
slot_of w = bit_xor (number_at 8 2 w) (number_at 8 10 w) % slot_count

-- the slot of row k is none of the rows' before it
abbrev pub Fresh : Rows → ℕ → Type 0
Fresh ρ k = (j : ℕ) → j < k → slot_of (ρ j) ≢ slot_of (ρ k)
