use mathlib.Core.Path.{refl, ◌∙◌}
use Rattle.std.proofs.Common.{rules, tests, arith}
use Rattle.std.proofs.lemmas.Iterator.{YieldsList-from_range}
use Rattle.std.proofs.lemmas.Iterator.Search.{all_from_yields_List}
use Rattle.error_file.specs.Steps.{is_named}
use Rattle.error_file.proofs.ErrorLaws.{every_below}
use Rattle.error_file.proofs.codes_named.Goals as goal

pub returns : goal.returns
returns c =
    all_from_yields_List (is_named c.args.index.now.rows.now c.args.answers.now) _ _ _ c.all.ensures.ran (YieldsList-from_range 0 c.args.n c.args.n refl (omega arith)) (λ x b q h. search (rules, tests))
    ∙ every_below c.args.n (is_named c.args.index.now.rows.now c.args.answers.now)
