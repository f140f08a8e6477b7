use Prim.Native.Nat.{◌≤◌}
use mathlib.Core.Bool.{true}
use mathlib.Core.Path.{◌≡◌}
use lib.ListN.{length, drop}
use Rattle.text.specs.Class.{is_space}
use Rattle.text.specs.Bytes.{all}
use Rattle.texts.proofs.length_of.Given as goal

abbrev pub invariant-loop-n : goal.invariant-loop-n
invariant-loop-n l = (l.n ≤ length l.w) × (all is_space (drop l.n l.w) ≡ true)
