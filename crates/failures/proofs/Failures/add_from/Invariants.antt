use Prim.Native.Nat.{◌+◌}
use mathlib.Core.Path.{◌≡◌}
use lib.ListN.{drop}
use Rattle.failures.specs.Failures.{added_from}
use Rattle.failures.proofs.Failures.add_from.Given as goal

abbrev pub invariant-loop-i : goal.invariant-loop-i
invariant-loop-i l = added_from l.initial.set l.place l.tests ≡ added_from l.set (l.place + l.i) (drop l.i l.tests)
