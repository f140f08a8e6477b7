-- What the private functions ask and promise that enter the rows of a list in the index.
-- Assumes nothing.
use Rattle.std.specs.Prelude.{ℕ, ◌+◌, ◌≤◌, ◌<◌, cond, List, ◌≡◌, ltb, length, get_or}
use Rattle.texts.specs.Texts.{code_count, row_among}
use Rattle.texts.specs.Index.{index_size, member_base}

-- an index that rows may be entered in, counted on from a base: no entry is above it
pub record Open (base : ℕ) (rows : List ℕ) : Type 0 where
  pub size : length rows ≡ index_size
  pub within : base ≤ member_base
  pub low : (code : ℕ) → code < code_count → get_or rows code 0 ≤ base

-- the first n rows of a list were entered, counted on from a base: each code that they hold has their entry, each other code the old one
pub record Entered (base n : ℕ) (t rows later : List ℕ) : Type 0 where
  pub size : length later ≡ index_size
  pub entries : (code : ℕ) → code < code_count
      → get_or later code 0 ≡ cond (ltb 0 (row_among n t code)) (base + row_among n t code) (get_or rows code 0)
