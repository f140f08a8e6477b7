use Prim.Native.Nat.{◌-◌}
use Rattle.text.proofs.SearchLaws.{Left}
use Rattle.tables.specs.Currencies.{currency_count, currency_at}
use Rattle.tables.proofs.is_money.Given as goal

abbrev pub invariant-loop-low : goal.invariant-loop-low
invariant-loop-low l = Left (currency_count l.t) (currency_at l.t) l.s l.low l.high

abbrev pub decreases-loop-low : goal.decreases-loop-low
decreases-loop-low l = l.high - l.low
