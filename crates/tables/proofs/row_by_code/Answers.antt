use Rattle.std.proofs.Common.{◌≡◌, ◌∙◌, rules}
use borrow.Author.Tests.{tests}
use Rattle.std.specs.List.{position}
use Rattle.std.proofs.lemmas.Iterator.{YieldsList-from_slice}
use Rattle.std.proofs.lemmas.Iterator.Search.{position_from_yields_List}
use Rattle.text.specs.Bytes.{same}
use Rattle.text.proofs.SameLaws.{eq_same}
use Rattle.tables.specs.Reporters.{code_of, has_code, row_by_code}
use Rattle.tables.proofs.ReporterLaws.{row_found, row_code_absent}
use Rattle.tables.proofs.row_by_code.Goals as goal

pub returns : goal.returns
unfolding row_by_code has_code
returns c =
    let rows = c.rows.result.now in
    let f = c.args.f.now in
    let found : c.position.result ≡ position (λ w. same (code_of w) f) rows =
    position_from_yields_List (λ w. same (code_of w) f) _ _ c.position.result c.position.ensures.ran (YieldsList-from_slice rows cc) (λ x b q k. search (rules, tests, eq_same)) in
    found ∙ row_found c.args.t.now f code_of same rows c.rows.ensures

pub returns-in_err-code : goal.returns-in_err-code
returns-in_err-code c = search (rules, row_code_absent)
