use mathlib.Core.Path.{◌∙◌}
use Rattle.ledger.proofs.SlotLaws.{fresh_new}
use Rattle.ledger.proofs.is_other_number.Goals as goal

pub returns-then-fresh : goal.returns-then-fresh
returns-then-fresh c = c.if-fresh.true ∙ fresh_new _ _ c.told-c c.requires.after (c.requires.fresh c.if-fresh.true)
