use lib.Dec.{eqb}
use lib.ListN.{get_or}
use Rattle.ledger.specs.Sound.{rows_of}
use Rattle.ledger.specs.Lookup.{NoneIn}
use Rattle.ledger.proofs.next_with.Given as goal

abbrev pub invariant-loop-k : goal.invariant-loop-k
invariant-loop-k l = NoneIn (λ j. eqb (get_or (rows_of l.c j) l.place 0) l.b) l.from l.k
