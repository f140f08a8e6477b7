use Rattle.std.proofs.Common.{◌≡◌, ℕ, List, ap, ◌∙◌}
use Rattle.frame.specs.Every.{least}
use Rattle.ledger.specs.Sound.{rows_of, row_count}
use Rattle.ledger.specs.Lookup.{is_live, live_row}
use Rattle.ledger.proofs.LookupLaws.{row_in_length, row_of_none}
use Rattle.ledger.proofs.live_row.Goals as goal

pub returns-in-Some : goal.returns-in-Some
unfolding live_row
returns-in-Some c =
    let whole = c.in-Some.ensures.cases in
    let bytes = c.args.c.now in
    let found : c.row_asked.result ≡ least row_count (is_live (rows_of bytes) c.args.n.now) = c.row_asked.ensures ∙ ap (λ (d : List ℕ). least row_count (is_live (rows_of d) c.args.n.now)) whole.same in
    found ∙ row_in_length bytes (is_live (rows_of bytes) c.args.n.now) whole.long

pub returns-in-None : goal.returns-in-None
unfolding live_row
returns-in-None c = let bytes = c.args.c.now in row_of_none bytes (is_live (rows_of bytes) c.args.n.now) c.in-None.ensures.cases
