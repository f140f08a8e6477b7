-- Laws of a table of parts of one size: what the tests of its length and of each part decide.
-- Assumes nothing.
use Prim.Native.Nat.{ℕ, ◌/◌, ◌%◌, ◌≤◌, ◌<◌}
use mathlib.Core.Bool.{Bool, true, false, ◌&&◌, not}
use mathlib.Core.List.{List}
use mathlib.Core.Path.{◌≡◌, refl, sym, ◌∙◌}
use borrow.Author.Tests.{le-leb, lt-leb, leb-true, eq-eqb, ne_eqb, not-true}
use lib.Dec.{leb, eqb}
use lib.ListN.{length}
use Rattle.frame.specs.Every.{every}
use Rattle.frame.proofs.BoolLaws.{and_left, and_right, and_false}
use Rattle.frame.proofs.EveryLaws.{every_at, every_done, every_broke}

-- a table that is not too long, made of whole parts, and in order (p) part by part
abbrev pub table_ok : ℕ → ℕ → (ℕ → Bool) → List ℕ → Bool
table_ok most size p t = leb (length t) most && eqb (length t % size) 0 && every (length t / size) p

module _ (most size : ℕ) (p : ℕ → Bool) (t : List ℕ) where
  -- the returns of a test of the table, in order
  pub table_long : most < length t → false ≡ table_ok most size p t
  table_long h = rw (lt-leb _ _ h) refl

  pub table_ragged : (length t % size ≡ 0 → ⊥) → false ≡ table_ok most size p t
  table_ragged n = rw (ne_eqb _ _ n, and_false) refl

  pub table_whole : length t ≤ most → length t % size ≡ 0 → every (length t / size) p ≡ table_ok most size p t
  table_whole h e = rw (le-leb _ _ h, eq-eqb _ _ e) refl

  pub table_broke : (k : ℕ) {r : Bool} → length t ≤ most → length t % size ≡ 0 → k < length t / size → r ≡ p k → not r ≡ true
      → false ≡ table_ok most size p t
  table_broke k h e b q n = every_broke _ p k b (sym q ∙ not-true _ n) ∙ table_whole h e

  pub table_done : (k : ℕ) → length t ≤ most → length t % size ≡ 0 → k ≤ length t / size → length t / size ≤ k → every k p ≡ true
      → true ≡ table_ok most size p t
  table_done k h e a b f = every_done _ p k a b f ∙ table_whole h e

  -- what a table in order gives
  pub table_length : table_ok most size p t ≡ true → length t ≤ most
  table_length e = leb-true _ _ (and_left _ _ (and_left (leb (length t) most && eqb (length t % size) 0) _ e))

  pub table_part : table_ok most size p t ≡ true → (k : ℕ) → k < length t / size → p k ≡ true
  table_part e = every_at _ p (and_right (leb (length t) most && eqb (length t % size) 0) _ e)
