use native.Mathlib.Omega.{arith}
use Rattle.texts.proofs.TextLaws.{row_below, row_above, text_none, text_cut, text_room}
use Rattle.texts.proofs.HandedLaws.{at_none, at_text}
use Rattle.texts.proofs.text_at.Goals as goal

pub returns-then-n-lt1 : goal.returns-then-n-lt1
returns-then-n-lt1 c =
    let a = c.args in
    let none = row_below a.t.now a.n c.if-n-lt1.true in
    record { bytes = text_none a.t.now _ none; address = at_none a.t _ none }

pub returns-then-t-n : goal.returns-then-t-n
returns-then-t-n c =
    let a = c.args in
    let none = row_above a.t.now a.n c.if-t-n.true in
    record { bytes = text_none a.t.now _ none; address = at_none a.t _ none }

pub overflow_add-text_end : goal.overflow_add-text_end
overflow_add-text_end c =
    let a = c.args in
    omega (arith, text_room a.t.now a.n c.if-n-lt1.false c.if-t-n.false c.length_of.ensures)

pub slice_bounds-result-end-2 : goal.slice_bounds-result-end-2
slice_bounds-result-end-2 c =
    let a = c.args in
    omega (arith, text_room a.t.now a.n c.if-n-lt1.false c.if-t-n.false c.length_of.ensures)

pub returns : goal.returns
returns c =
    let a = c.args in
    let low = c.if-n-lt1.false in
    let high = c.if-t-n.false in
    record {
      bytes = text_cut a.t.now a.n low high c.length_of.ensures;
      address = at_text a.t a.n low high;
    }
