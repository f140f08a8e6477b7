use Prim.Native.Nat.{◌+◌, ◌≤◌}
use mathlib.Core.List.{◌++◌}
use mathlib.Core.Path.{◌≡◌}
use lib.ListN.{length, take, drop}
use Rattle.fields.specs.Fields.{semicolons_from}
use Rattle.fields.proofs.extend.Given as goal

abbrev pub invariant-loop-i : goal.invariant-loop-i
invariant-loop-i l =
    (l.count ≤ 38) × (length l.stops ≡ 39) × (take l.found l.initial.stops ++ semicolons_from l.at l.w ≡ take l.count l.stops ++ semicolons_from (l.at + l.i) (drop l.i l.w))
