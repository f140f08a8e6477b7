use Rattle.fields.specs.Fields.{field_by}
use Rattle.tables.specs.Currencies.{found_money}
use Rattle.checks.specs.Record.{client_group, trade_group, instrument_group, terms_group, capacity_group, derivative_group, underlying_group, marks_group}
use Rattle.checks.proofs.RecordLaws.{groups_added}
use Rattle.checks.proofs.judge.Goals as goal

-- each group is judged of the fields by the index, and added behind the one before it
pub returns : goal.returns
unfolding client_group trade_group instrument_group terms_group capacity_group derivative_group underlying_group marks_group
returns c =
    let a = c.args in
    let r = a.«record».now in
    rw (c.add_from-8.ensures, c.add_from-7.ensures, c.add_from-6.ensures, c.add_from-5.ensures, c.add_from-4.ensures, c.add_from-3.ensures)
    (rw (c.add_from-2.ensures, c.add_from.ensures, c.none.ensures)
    (rw (c.judge-client.ensures, c.judge_trade-trade.ensures, c.judge_instrument-instrument.ensures, c.judge_terms-terms.ensures)
    (rw (c.judge_capacity-capacity.ensures, c.judge_derivative-derivative.ensures, c.judge-underlying.ensures, c.judge_marks-marks.ensures)
    (rw (c.is_money-money21.ensures, c.is_money-money24.ensures)
    (rw (c.field-f3.ensures.bytes, c.field-f4.ensures.bytes, c.field-f18.ensures.bytes, c.field-f19.ensures.bytes, c.field-f21.ensures.bytes)
    (rw (c.field-f24.ensures.bytes, c.field.ensures.bytes, c.field-2.ensures.bytes, c.field-3.ensures.bytes, c.field-4.ensures.bytes)
    (rw (c.field-5.ensures.bytes, c.field-6.ensures.bytes, c.field-7.ensures.bytes, c.field-8.ensures.bytes, c.field-9.ensures.bytes)
    (rw (c.field-10.ensures.bytes, c.field-11.ensures.bytes, c.field-12.ensures.bytes, c.field-13.ensures.bytes, c.field-14.ensures.bytes)
    (rw (c.field-15.ensures.bytes, c.field-16.ensures.bytes, c.field-17.ensures.bytes, c.field-18.ensures.bytes)
    (groups_added a.tables.reporters.now (found_money a.tables.currencies.now) a.row (field_by r.bytes.now r.stops)))))))))))
