use mathlib.Core.Bool.{true}
use mathlib.Core.Path.{◌≡◌}
use Rattle.frame.specs.Every.{every}
use Rattle.tables.specs.Reporters.{reporter_ok}
use Rattle.tables.proofs.reporters_ok.Given as goal

abbrev pub invariant-loop-k : goal.invariant-loop-k
invariant-loop-k l = every l.k (reporter_ok l.t) ≡ true
