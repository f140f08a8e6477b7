use Rattle.std.proofs.Common.{◌≡◌, ◌∙◌, rules}
use borrow.Author.Tests.{tests}
use Rattle.std.specs.List.{position}
use Rattle.std.proofs.lemmas.Iterator.{YieldsList-from_slice}
use Rattle.std.proofs.lemmas.Iterator.Search.{position_from_yields_List}
use Rattle.identifier.specs.Identifier.{same_address}
use Rattle.tables.specs.Reporters.{address_of, has_address, row_by_address}
use Rattle.tables.proofs.ReporterLaws.{row_found}
use Rattle.tables.proofs.row_by_address.Goals as goal

pub returns : goal.returns
unfolding row_by_address has_address
returns c =
    let rows = c.rows.result.now in
    let f = c.args.f.now in
    let found : c.position.result ≡ position (λ w. same_address (address_of w) f) rows =
    position_from_yields_List (λ w. same_address (address_of w) f) _ _ c.position.result c.position.ensures.ran (YieldsList-from_slice rows cc) (λ x b q k. search (rules, tests)) in
    found ∙ row_found c.args.t.now f address_of same_address rows c.rows.ensures
