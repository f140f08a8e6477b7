use mathlib.Core.Bool.{true}
use mathlib.Core.Path.{◌≡◌}
use Rattle.frame.specs.Every.{every}
use Rattle.ledger.specs.Sound.{compartment, sound_compartment}
use Rattle.ledger.proofs.sound_ledger.Given as goal

abbrev pub invariant-loop-c : goal.invariant-loop-c
invariant-loop-c l = every l.c-index (λ r. sound_compartment (compartment r l.l)) ≡ true
