use mathlib.Core.Path.{◌∙◌}
use Rattle.fields.proofs.FieldLaws.{place_below, place_above, place_beyond, place_first, place_next, place_unordered}
use Rattle.fields.proofs.place_of.Goals as goal

pub returns-then-n-lt1 : goal.returns-then-n-lt1
returns-then-n-lt1 c = c.empty_place.ensures ∙ place_below _ _ _ c.if-n-lt1.true

pub returns-then-n-gt39 : goal.returns-then-n-gt39
returns-then-n-gt39 c = c.empty_place-then-n-gt39.ensures ∙ place_above _ _ _ c.if-n-gt39.true

pub returns-then-size-end : goal.returns-then-size-end
returns-then-size-end c = c.empty_place-then-size-end.ensures ∙ place_beyond _ _ _ c.if-size-end.true

pub returns-then-n-eq1 : goal.returns-then-n-eq1
returns-then-n-eq1 c = place_first _ _ _ c.if-n-eq1.true c.if-size-end.false

pub returns-then-before-end : goal.returns-then-before-end
returns-then-before-end c =
    place_next _ _ _ c.if-n-lt1.false c.if-n-gt39.false c.if-n-eq1.false c.if-size-end.false c.if-before-end.true

pub returns-else-before-end : goal.returns-else-before-end
returns-else-before-end c = c.empty_place-else-before-end.ensures ∙ place_unordered _ _ _ c.if-n-eq1.false c.if-before-end.false
