use mathlib.Core.Bool.{true}
use mathlib.Core.Path.{◌≡◌}
use Rattle.frame.specs.Every.{every}
use Rattle.ledger.specs.Row.{number}
use Rattle.ledger.specs.Sound.{rows_of, precedes}
use Rattle.ledger.proofs.is_new_number.Given as goal

abbrev pub invariant-loop-j : goal.invariant-loop-j
invariant-loop-j l = every l.j (precedes (rows_of l.c) (number (rows_of l.c l.k))) ≡ true
