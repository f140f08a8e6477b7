use Prim.Native.Nat.{◌^◌, ◌≤◌, ◌<◌}
use mathlib.Core.Path.{◌≡◌}
use lib.ListN.{length, take}
use Rattle.text.specs.Number.{big_endian}
use Rattle.text.proofs.big_endian.Given as goal

abbrev pub invariant-loop-b : goal.invariant-loop-b
invariant-loop-b l = (length l.w ≤ 8) × (l.number ≡ big_endian (take l.b-index l.w)) × (l.number < 256 ^ l.b-index)
