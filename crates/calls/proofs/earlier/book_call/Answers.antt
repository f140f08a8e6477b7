use mathlib.Core.Path.{sym, ◌∙◌}
use Rattle.std.proofs.lemmas.Result.{err_from_is_err_and}
use Rattle.refusal.proofs.RefusalLaws.{number_some}
use Rattle.tables.specs.Tables.{lent}
use Rattle.calls.specs.Call.{sent}
use Rattle.calls.specs.Judging.{booking}
use Rattle.calls.proofs.CallLaws.{settles, settled_lem}
use Rattle.calls.proofs.JudgingLaws.{booking_refused, booking_free, booking_fits}
use Rattle.calls.proofs.earlier.book_call.Goals as goal

pub returns-in_err-foreseen : goal.returns-in_err-foreseen
returns-in_err-foreseen c =
    let p = err_from_is_err_and c.from_residual.result c.from_residual.ensures.1 in
    rw (p.1, p.2) (booking_refused _ _ _ _ c.in_err-foreseen.ensures.number (number_some _))

pub settle-requires : goal.settle-requires
settle-requires c =
    let a = c.args in
    let free = booking_free (lent a.tables) (booking (sent a.call) a.earlier.now) _ (sym c.in_ok-foreseen.ensures.number) in
    settles _ _ _ free.0 c.in_ok-foreseen.ensures.foreseen

pub returns : goal.returns
returns c =
    let a = c.args in
    let b = booking (sent a.call) a.earlier.now in
    let free = booking_free (lent a.tables) b _ (sym c.in_ok-foreseen.ensures.number) in
    settled_lem _ _ _ free.0 c.in_ok-foreseen.ensures.foreseen c.settle.ensures ∙ sym (booking_fits (lent a.tables) b _ free.1)
