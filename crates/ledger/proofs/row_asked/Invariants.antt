use Prim.Native.Nat.{◌≤◌, ◌-◌}
use Rattle.ledger.specs.Sound.{rows_of, row_count}
use Rattle.ledger.specs.Lookup.{NoneIn, is_asked_row}
use Rattle.ledger.proofs.row_asked.Given as goal

abbrev pub invariant-loop-k : goal.invariant-loop-k
invariant-loop-k l = (l.k ≤ row_count) × NoneIn (is_asked_row l.asked (rows_of l.c) l.n) 0 l.k

abbrev pub decreases-loop-k : goal.decreases-loop-k
decreases-loop-k l = row_count - l.k
