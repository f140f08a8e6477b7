use borrow.Author.Rules.{rules}
use mathlib.Core.Bool.{true, ◌&&◌, not}
use mathlib.Core.Path.{◌≡◌, ◌∙◌}
use lib.Dec.{eqb}
use Rattle.std.specs.List.{fold}
use Rattle.frame.proofs.ListLaws.{fold_all}
use Rattle.failures.proofs.is_unlisted.Goals as goal

pub returns : goal.returns
returns c =
    let folded : c.fold.result ≡ fold (λ none known. none && not (eqb known c.args.code)) true c.args.listed.now = search rules in
    folded ∙ fold_all (λ known. not (eqb known c.args.code)) true c.args.listed.now
