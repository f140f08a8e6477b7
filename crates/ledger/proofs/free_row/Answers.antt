use Rattle.std.proofs.Common.{◌∙◌}
use Rattle.ledger.specs.Sound.{rows_of}
use Rattle.ledger.specs.Lookup.{is_free, FirstFrom, free_row}
use Rattle.ledger.proofs.LookupLaws.{row_first, row_in_length, row_of_none}
use Rattle.ledger.proofs.free_row.Goals as goal

pub returns-in-Some : goal.returns-in-Some
unfolding free_row
returns-in-Some c =
    let whole = c.in-Some.ensures.cases in
    let bytes = c.args.c.now in
    let first : FirstFrom (is_free (rows_of bytes)) 0 c.next_with.result = rw whole.same at c.next_with.ensures in
    row_first _ _ first ∙ row_in_length bytes (is_free (rows_of bytes)) whole.long

pub returns-in-None : goal.returns-in-None
unfolding free_row
returns-in-None c = let bytes = c.args.c.now in row_of_none bytes (is_free (rows_of bytes)) c.in-None.ensures.cases
