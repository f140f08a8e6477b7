-- A part of what the caller lent, as a function hands it out again.
-- Assumes nothing.
use Rattle.std.specs.Prelude.{ℕ, ◌+◌, cond, List, ◌≡◌, leb, length}
use Rattle.std.specs.Borrow.{Bor}

-- "that part of the caller's": it has these bytes, and in the caller's memory it begins so many bytes behind the start of what was lent
pub record Lies (lent : Bor (List ℕ)) (start : ℕ) (content : List ℕ) (r : Bor (List ℕ)) : Type 0 where
  pub bytes : r.now ≡ content
  pub address : r.ref_ptr ≡ (lent.ref_ptr.0, lent.ref_ptr.1 + start)

-- where what follows the first k bytes begins: behind them; at the start where there are fewer
abbrev pub rest_start : ℕ → List ℕ → ℕ
rest_start k s = cond (leb k (length s)) k 0
