use Rattle.std.proofs.Common.{List, ℕ}
use Prim.Native.Nat.{◌+◌, ◌*◌, ◌^◌, ◌≤◌, ◌<◌}
use native.Mathlib.Omega.{arith}
use mathlib.Core.Path.{ap}
use lib.Dec.{lit<}
use lib.ListN.{length, get_or, length-take}
use Rattle.text.proofs.NumberLaws.{digit_more, below_power}
use Rattle.text.proofs.WordLaws.{big_none, big_more}
use Rattle.text.proofs.big_endian.Goals as goal

-- with the next byte the number is below the next power, which a word holds
more : (w : List ℕ) (number i : ℕ) → get_or w i 0 < 256 → number < 256 ^ i → number * 256 + get_or w i 0 < 256 ^ (i + 1)
more w number i byte h = digit_more 256 number (get_or w i 0) i h byte

fits : (w : List ℕ) (number i : ℕ) → get_or w i 0 < 256 → number < 256 ^ i → i < length w → length w ≤ 8
    → number * 256 + get_or w i 0 < 2 ^ 64
fits w number i byte h inside short = below_power 255 {n = 8} (more w number i byte h) (omega arith)

pub loop-b-init : goal.loop-b-init
loop-b-init c =
    let short : length c.front-w.result.now ≤ 8 = omega (arith, ap length c.front-w.ensures.bytes, length-take {A = ℕ}) in
    (short, big_none, lit< tt)

pub overflow_mul-number : goal.overflow_mul-number
overflow_mul-number c =
    let l = c.loop-b in
    record { fits = omega (arith, fits _ l.number l.b-index (c.type_inv.w l.b-index).fits l.invariant.2 c.loop-b-test.true l.invariant.0) }

pub loop-b-preserved : goal.loop-b-preserved
loop-b-preserved c =
    let l = c.loop-b in
    rw c.from.ensures (l.invariant.0, big_more _ _ c.loop-b-test.true l.invariant.1, more _ l.number l.b-index (c.type_inv.w l.b-index).fits l.invariant.2)
