-- Places 7 to 60 of document 01, of a record's fields. F n is field n; money tells whether a field is a code in the currency list.
-- Assumes nothing.
use Rattle.std.specs.Prelude.{ℕ, Bool, List, ◌++◌}
use Rattle.failures.specs.declared.Failures.{Failures}
use Rattle.failures.specs.Failures.{added_from, no_failure}
use Rattle.client.specs.Client.{client_tests}
use Rattle.trade.specs.Trade.{trade_tests}
use Rattle.trade.specs.Instrument.{instrument_tests}
use Rattle.terms.specs.Terms.{terms_tests}
use Rattle.terms.specs.Capacity.{capacity_tests}
use Rattle.terms.specs.Derivative.{derivative_tests}
use Rattle.terms.specs.Marks.{mark_tests}
use Rattle.underlying.specs.Underlying.{underlying_tests}

-- 7 to 17
unfoldable pub client_group : (ℕ → List ℕ) → List Bool
client_group F = client_tests (F 3) (F 4) (F 5) (F 6)

-- 18 to 24
unfoldable pub trade_group : (ℕ → List ℕ) → List Bool
trade_group F = trade_tests (F 7) (F 8) (F 9) (F 14) (F 15) (F 18) (F 19)

-- 25 to 30
unfoldable pub instrument_group : (ℕ → List ℕ) → List Bool
instrument_group F = instrument_tests (F 19) (F 20)

-- 31 to 41, of whether F21 and F24 are money
unfoldable pub terms_group : Bool → Bool → (ℕ → List ℕ) → List Bool
terms_group money21 money24 F = terms_tests money21 money24 (F 21) (F 22) (F 23) (F 24) (F 25)

-- 42 to 46, for a reporter's row
unfoldable pub capacity_group : List ℕ → ℕ → (ℕ → List ℕ) → List Bool
capacity_group reporters row F = capacity_tests reporters row (F 3) (F 4) (F 18) (F 28)

-- 47 to 51, of whether F21 is money
unfoldable pub derivative_group : Bool → (ℕ → List ℕ) → List Bool
derivative_group money21 F = derivative_tests money21 (F 21) (F 29) (F 30) (F 32)

-- 52 to 58
unfoldable pub underlying_group : (ℕ → List ℕ) → List Bool
underlying_group F = underlying_tests (F 19) (F 21) (F 33)

-- 59 and 60
unfoldable pub marks_group : (ℕ → List ℕ) → List Bool
marks_group F = mark_tests (F 38) (F 39)

-- whether each of places 7 to 60 fails, for a record that passes the sender check for a reporter's row. Every place is judged
unfoldable pub record_tests : List ℕ → (List ℕ → Bool) → ℕ → (ℕ → List ℕ) → List Bool
record_tests reporters money row F =
    client_group F
    ++ (trade_group F
    ++ (instrument_group F
    ++ (terms_group (money (F 21)) (money (F 24)) F
    ++ (capacity_group reporters row F
    ++ (derivative_group (money (F 21)) F
    ++ (underlying_group F
    ++ marks_group F))))))

-- the set of those that fail
unfoldable pub record_failures : List ℕ → (List ℕ → Bool) → ℕ → (ℕ → List ℕ) → Failures
record_failures reporters money row F = added_from no_failure 7 (record_tests reporters money row F)
