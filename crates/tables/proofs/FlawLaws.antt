-- Laws of the refusals that the tables cause.
-- Assumes nothing.
use Prim.Native.Nat.{ℕ, ◌<◌}
use native.Mathlib.Omega.{arith}
use mathlib.Core.Bool.{Bool, true, false, not}
use mathlib.Core.List.{[]}
use mathlib.Core.Logic.{◌≢◌}
use mathlib.Core.Path.{◌≡◌, sym}
use Rattle.frame.proofs.ReplyLaws.{unless_holds, unless_none, unless_never, first_passes, first_end, test_applies, test_passes, first_none}
use Rattle.frame.proofs.ReplyLaws.{end_never, first_never}
use Rattle.tables.specs.Reporters.{reporters_ok}
use Rattle.tables.specs.Currencies.{currencies_ok}
use Rattle.tables.specs.Tables.{Tables, tables_flaw}

module _ (t : Tables) where
  -- what code finds that tests the reporters table, and then the currency list
  module _ {r : Bool} (e : r ≡ reporters_ok t.reporters) where
    pub reporters_refuse : not r ≡ true → 2 ≡ tables_flaw t
    unfolding tables_flaw
    reporters_refuse h = test_applies 2 _ (omega arith) e h

    module _ (h : not r ≡ false) {q : Bool} (d : q ≡ currencies_ok t.currencies) where
      pub currencies_refuse : not q ≡ true → 3 ≡ tables_flaw t
      unfolding tables_flaw
      currencies_refuse k = test_passes 2 _ e h (test_applies 3 [] (omega arith) d k)

      pub tables_tested : not q ≡ false → tables_flaw t ≡ 0
      unfolding tables_flaw
      tables_tested k = sym (test_passes 2 _ e h (test_passes 3 [] d k first_end))

  -- tables that are both in order refuse no call
  pub tables_pass : reporters_ok t.reporters ≡ true → currencies_ok t.currencies ≡ true → tables_flaw t ≡ 0
  unfolding tables_flaw
  tables_pass a b = sym (first_passes _ (unless_holds 2 a) (first_passes [] (unless_holds 3 b) first_end))

  -- tables that refuse no call are both in order
  pub tables_in_order : tables_flaw t ≡ 0 → (reporters_ok t.reporters ≡ true) × (currencies_ok t.currencies ≡ true)
  unfolding tables_flaw
  tables_in_order e =
      let (first, others) = first_none _ _ e in
      (unless_none _ 2 (omega arith) first, unless_none _ 3 (omega arith) (first_none _ [] others).0)

  -- they refuse by 2 and 3 only
  pub tables_never : (n : ℕ) → 3 < n → tables_flaw t ≢ n
  unfolding tables_flaw
  tables_never n h =
      first_never n _ _ (unless_never _ 2 n (omega arith) (omega arith))
      (first_never n _ [] (unless_never _ 3 n (omega arith) (omega arith)) (end_never n (omega arith)))
