use mathlib.Core.Path.{ap, ◌∙◌}
use Rattle.ledger.specs.Row.{cancelled}
use Rattle.booking.specs.Booking.{relinked_at, cancelled_by}
use Rattle.booking.proofs.cancel.Goals as goal

pub returns : goal.returns
unfolding cancelled_by
returns c =
    let a = c.args in
    c.relink_row-2.ensures ∙ ap (relinked_at a.p cancelled a.f) c.relink_row.ensures
