use mathlib.Core.Bool.{true}
use mathlib.Core.Path.{◌≡◌}
use Rattle.frame.specs.Every.{every}
use Rattle.tables.specs.Currencies.{currency_ok}
use Rattle.tables.proofs.CodeLaws.{number_before}
use Rattle.tables.proofs.ascends.Given as goal

abbrev pub invariant-loop-w : goal.invariant-loop-w
invariant-loop-w l = (every l.w-index (currency_ok l.t) ≡ true) × (l.before ≡ number_before l.t l.w-index)
