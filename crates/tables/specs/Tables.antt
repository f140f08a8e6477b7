-- The lent tables of document 01 as one thing, which every rule that looks into them takes; and the refusals that they cause.
-- Assumes nothing.
use Rattle.std.specs.Prelude.{ℕ, List, [], ◌∷◌}
use Rattle.frame.specs.Reply.{unless, first_of}
use Rattle.tables.specs.Reporters.{reporters_ok}
use Rattle.tables.specs.Currencies.{currencies_ok}
use Rattle.tables.specs.declared.Tables.{Tables as Lent}

pub record Tables : Type 0 where
  pub reporters : List ℕ
  pub currencies : List ℕ

abbrev pub tables_of : List ℕ → List ℕ → Tables
tables_of reporters currencies = record { reporters = reporters; currencies = currencies }

-- the two that a call is lent
abbrev pub lent : Lent → Tables
lent t = tables_of t.reporters.now t.currencies.now

-- the number by which they refuse a call, the first that applies; 0 for none
unfoldable pub tables_flaw : Tables → ℕ
tables_flaw t =
    first_of
    (unless (reporters_ok t.reporters) 2
    ∷ unless (currencies_ok t.currencies) 3
    ∷ [])
