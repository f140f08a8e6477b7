use mathlib.Core.Path.{refl, ◌∙◌}
use Rattle.text.proofs.PartLaws.{at_start}
use Rattle.text.proofs.SameLaws.{position_or_end}
use Rattle.words.proofs.LineLaws.{lies_before}
use Rattle.words.proofs.before.Goals as goal

pub returns : goal.returns
returns c =
    let place = rw c.position.ensures at c.unwrap_or.ensures ∙ position_or_end _ _ in
    lies_before _ place (record { bytes = refl; address = at_start c.args.s })
