use mathlib.Core.Path.{sym, ◌∙◌}
use Rattle.fields.proofs.FieldLaws.{placed, field_broken}
use Rattle.fields.proofs.field_place.Goals as goal

pub returns-then-fill : goal.returns-then-fill
returns-then-fill c = rw (c.place_of.ensures, c.fill.ensures.1 c.if-fill.true) (placed c.args.«record».now c.args.n)

pub returns : goal.returns
returns c = c.empty_place.ensures ∙ sym (field_broken _ _ (sym c.fill.ensures.0 ∙ c.if-fill.false))
