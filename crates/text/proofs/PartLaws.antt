-- Where the parts of what was lent lie in the caller's memory.
-- Assumes nothing.
use Prim.Native.Nat.{ℕ, ◌+◌, ◌≤◌}
use native.Mathlib.Omega.{arith}
use mathlib.Core.List.{List}
use mathlib.Core.Path.{◌≡◌, ap}
use borrow.Author.Tests.{le-leb}
use denote.Ref.{Bor}
use lib.ListN.{length}
use Rattle.text.specs.Part.{rest_start}

module _ (lent : Bor (List ℕ)) where
  -- what is lent from its start on, and from byte k on
  pub at_start : lent.ref_ptr ≡ (lent.ref_ptr.0, lent.ref_ptr.1 + 0)
  at_start = let e : lent.ref_ptr.1 ≡ lent.ref_ptr.1 + 0 = omega arith in ap (λ (n : ℕ). (lent.ref_ptr.0, n)) e

  pub at_byte : (k : ℕ) → ◌≡◌ {A = ℕ × ℕ} (lent.ref_ptr.0, k + lent.ref_ptr.1) (lent.ref_ptr.0, lent.ref_ptr.1 + k)
  at_byte k = let e : k + lent.ref_ptr.1 ≡ lent.ref_ptr.1 + k = omega arith in ap (λ (n : ℕ). (lent.ref_ptr.0, n)) e

  -- what follows the first k bytes, where there are as many
  pub rest_at : (k : ℕ) → k ≤ length lent.now → ◌≡◌ {A = ℕ × ℕ} (lent.ref_ptr.0, k + lent.ref_ptr.1) (lent.ref_ptr.0, lent.ref_ptr.1 + rest_start k lent.now)
  rest_at k h = rw (le-leb _ _ h) (at_byte k)
