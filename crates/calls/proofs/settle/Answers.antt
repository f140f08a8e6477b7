use native.Mathlib.Omega.{arith}
use Rattle.calls.proofs.CallLaws.{ready, settled_some, rows_booked}
use Rattle.calls.proofs.settle.Goals as goal

pub returns-in-Some : goal.returns-in-Some
returns-in-Some c =
    let a = c.args in
    let entry = c.in-Some.entry in
    let h = ready a.foreseen a.«record».now a.ledger.now c.in-Some.is c.requires in
    settled_some a.foreseen a.«record».now a.ledger.now c.in-Some.is
    (rows_booked _ _ (omega (arith, h.0, h.1)) a.foreseen.answer.booked a.«record».now entry.number entry.quantity entry.side entry.named c.book.ensures)
