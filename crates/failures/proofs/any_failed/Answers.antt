use borrow.Author.Rules.{rules}
use mathlib.Core.Bool.{false, ◌||◌}
use mathlib.Core.Path.{◌≡◌, ◌∙◌}
use Rattle.std.specs.List.{fold}
use Rattle.frame.proofs.ListLaws.{fold_any}
use Rattle.failures.proofs.FailureLaws.{any_listed}
use Rattle.failures.proofs.any_failed.Goals as goal

pub returns : goal.returns
returns c =
    let folded : c.fold.result ≡ fold (λ any failed. any || failed) false c.args.tests.now = search rules in
    folded ∙ fold_any (λ t. t) false c.args.tests.now ∙ any_listed _
