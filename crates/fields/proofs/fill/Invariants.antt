use Prim.Native.Nat.{◌≤◌, ◌*◌}
use mathlib.Core.List.{◌++◌}
use mathlib.Core.Path.{◌≡◌}
use lib.ListN.{length, take, drop}
use Rattle.fields.specs.Fields.{semicolons_from, semicolons}
use Rattle.fields.proofs.fill.Given as goal

abbrev pub invariant-loop-k : goal.invariant-loop-k
invariant-loop-k l =
    (l.found ≤ 38) × (length l.stops ≡ 39) × (semicolons l.fn.record ≡ take l.found l.stops ++ semicolons_from (l.k * 16) (drop (l.k * 16) l.fn.record))
