use Rattle.std.proofs.Common.{◌≡◌, ℕ, List, ap, ◌∙◌}
use Rattle.frame.specs.Every.{least}
use Rattle.ledger.specs.Sound.{rows_of, row_count}
use Rattle.ledger.specs.Lookup.{has_number, row_by_number}
use Rattle.ledger.proofs.LookupLaws.{row_in_length, row_of_none}
use Rattle.ledger.proofs.row_by_number.Goals as goal

pub returns-in-Some : goal.returns-in-Some
unfolding row_by_number
returns-in-Some c =
    let whole = c.in-Some.ensures.cases in
    let bytes = c.args.c.now in
    let found : c.row_asked.result ≡ least row_count (has_number (rows_of bytes) c.args.n.now) = c.row_asked.ensures ∙ ap (λ (d : List ℕ). least row_count (has_number (rows_of d) c.args.n.now)) whole.same in
    found ∙ row_in_length bytes (has_number (rows_of bytes) c.args.n.now) whole.long

pub returns-in-None : goal.returns-in-None
unfolding row_by_number
returns-in-None c = let bytes = c.args.c.now in row_of_none bytes (has_number (rows_of bytes) c.args.n.now) c.in-None.ensures.cases
