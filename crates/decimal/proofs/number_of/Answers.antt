use Prim.Native.Nat.{◌<◌}
use lib.Dec.{lit<}
use native.Mathlib.Omega.{arith}
use Rattle.decimal.proofs.DecimalLaws.{more_fits}
use Rattle.decimal.proofs.number_of.Goals as goal

pub overflow_mul-v : goal.overflow_mul-v
overflow_mul-v c =
    let small : c.loop-b.b-index < 19 = omega arith in
    omega (arith, more_fits c.loop-b.v c.loop-b.b-index {d = 0} c.loop-b.invariant.1 small (lit< tt))

pub overflow_add-v : goal.overflow_add-v
overflow_add-v c =
    let small : c.loop-b.b-index < 19 = omega arith in
    record { fits = more_fits _ c.loop-b.b-index c.loop-b.invariant.1 small c.digit.ensures.1 }
