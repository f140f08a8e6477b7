use Rattle.tables.specs.Tables.{lent}
use Rattle.calls.proofs.TakingLaws.{Going}
use Rattle.calls.proofs.filing.take_records.Given as goal

abbrev pub invariant-loop-k : goal.invariant-loop-k
invariant-loop-k l =
    Going (lent l.tables) l.sender l.body l.records l.initial.ledger l.initial.answers l.at l.k l.ledger l.answers
