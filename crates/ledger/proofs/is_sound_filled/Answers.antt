use Rattle.ledger.proofs.CheckLaws.{form_decides, number_decides, link_decides}
use Rattle.ledger.proofs.is_sound_filled.Goals as goal

pub returns-then-is_other_number : goal.returns-then-is_other_number
returns-then-is_other_number c =
    link_decides _ _ c.requires.filled c.row.ensures c.is_row_form.ensures c.if-is_row_form.true
    c.is_other_number.ensures c.if-is_other_number.true c.is_linked.ensures

pub returns-else-is_other_number : goal.returns-else-is_other_number
returns-else-is_other_number c =
    number_decides _ _ c.requires.filled c.row.ensures c.is_row_form.ensures c.if-is_row_form.true
    c.is_other_number.ensures c.if-is_other_number.false

pub returns-else-is_row_form : goal.returns-else-is_row_form
returns-else-is_row_form c =
    form_decides _ _ c.requires.filled c.row.ensures c.is_row_form.ensures c.if-is_row_form.false
