use Prim.Native.Nat.{◌<◌, ◌+◌, ◌%◌}
use mathlib.Core.List.{reverse}
use mathlib.Core.Path.{◌≡◌}
use Rattle.identifier.specs.Isin.{letters_from, letter_sum}
use Rattle.identifier.proofs.letter_sum.Given as goal

abbrev pub invariant-loop-b : goal.invariant-loop-b
invariant-loop-b l = (l.total < 1000) × (letter_sum l.s % 10 ≡ (l.total + letters_from l.double (reverse l.b-iterator.iter.rest.now)) % 10)
