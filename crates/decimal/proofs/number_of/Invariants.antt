use Prim.Native.Nat.{◌<◌, ◌^◌}
use mathlib.Core.Path.{◌≡◌}
use lib.ListN.{drop}
use Rattle.decimal.specs.Decimal.{digits_value, digits_value_after}
use Rattle.decimal.proofs.number_of.Given as goal

abbrev pub invariant-loop-b : goal.invariant-loop-b
invariant-loop-b l = (digits_value l.s ≡ digits_value_after l.v (drop l.b-index l.s)) × (l.v < 10 ^ l.b-index)
