-- Places 7 to 60, added group behind group, are those of the whole list.
-- Assumes nothing.
use Prim.Native.Nat.{ℕ, ◌+◌}
use mathlib.Core.Bool.{Bool, true, false, ◌&&◌, not, cond}
use mathlib.Core.List.{List, [], ◌∷◌, ◌++◌}
use mathlib.Core.Path.{◌≡◌, refl, ◌∙◌, subst}
use lib.ListN.{length, length-append}
use Rattle.failures.specs.declared.Failures.{Failures}
use Rattle.failures.specs.Failures.{added_from, no_failure}
use Rattle.failures.proofs.FailureLaws.{added_append}
use Rattle.client.specs.Client.{client_tests}
use Rattle.trade.specs.Trade.{trade_tests}
use Rattle.trade.specs.Instrument.{instrument_tests}
use Rattle.terms.specs.Terms.{terms_tests}
use Rattle.terms.specs.Capacity.{capacity_tests}
use Rattle.terms.specs.Derivative.{derivative_tests}
use Rattle.terms.specs.Marks.{mark_tests}
use Rattle.underlying.specs.Underlying.{asks_underlying, is_missing, present_tests, underlying_tests}
use Rattle.checks.specs.Record.{client_group, trade_group, instrument_group, terms_group, capacity_group, derivative_group, underlying_group, marks_group}
use Rattle.checks.specs.Record.{record_tests, record_failures}

-- whether it is judged or not, a group has its count of places
pub underlying_length : (F : ℕ → List ℕ) → length (underlying_group F) ≡ 7
unfolding underlying_group underlying_tests present_tests
underlying_length F = of (asks_underlying (F 21) && not (is_missing (F 33)))
  where
    of : (b : Bool)
        → length ((asks_underlying (F 21) && is_missing (F 33)) ∷ cond b (present_tests (F 19) (F 33)) (false ∷ false ∷ false ∷ false ∷ false ∷ false ∷ [])) ≡ 7
    of true = refl
    of false = refl

-- 54 places, 7 to 60
pub record_length : (reporters : List ℕ) (money : List ℕ → Bool) (row : ℕ) (F : ℕ → List ℕ) → length (record_tests reporters money row F) ≡ 54
unfolding record_tests client_group trade_group instrument_group terms_group capacity_group derivative_group marks_group
    client_tests trade_tests instrument_tests terms_tests capacity_tests derivative_tests mark_tests
record_length reporters money row F = simp (length-append, underlying_length F) refl

-- a group that is added at the place behind another
next_group : (ts us : List Bool) (s : Failures) (k n : ℕ) → length ts ≡ n → added_from (added_from s k ts) (k + n) us ≡ added_from s k (ts ++ us)
next_group ts us s k n e = subst (λ (m : ℕ). added_from (added_from s k ts) (k + m) us ≡ added_from s k (ts ++ us)) e (added_append ts us s k)

module _ (reporters : List ℕ) (money : List ℕ → Bool) (row : ℕ) (F : ℕ → List ℕ) where
  pub groups_added :
      added_from (added_from (added_from (added_from (added_from (added_from (added_from (added_from no_failure
      7 (client_group F)) 18 (trade_group F)) 25 (instrument_group F)) 31 (terms_group (money (F 21)) (money (F 24)) F)) 42 (capacity_group reporters row F))
      47 (derivative_group (money (F 21)) F)) 52 (underlying_group F)) 59 (marks_group F)
      ≡ record_failures reporters money row F
  unfolding record_failures record_tests client_group trade_group instrument_group terms_group capacity_group derivative_group
      client_tests trade_tests instrument_tests terms_tests capacity_tests derivative_tests
  groups_added =
      next_group (underlying_group F) (marks_group F) _ 52 7 (underlying_length F)
      ∙ next_group (derivative_group (money (F 21)) F) _ _ 47 5 refl
      ∙ next_group (capacity_group reporters row F) _ _ 42 5 refl
      ∙ next_group (terms_group (money (F 21)) (money (F 24)) F) _ _ 31 11 refl
      ∙ next_group (instrument_group F) _ _ 25 6 refl
      ∙ next_group (trade_group F) _ _ 18 7 refl
      ∙ next_group (client_group F) _ no_failure 7 11 refl
