use mathlib.Core.Path.{◌∙◌}
use borrow.Author.Tests.{lt-ltb, le-ltb}
use Rattle.frame.proofs.BoolLaws.{and_goes, and_stops}
use Rattle.ledger.proofs.CheckLaws.{cancellation_linked, cancelled_linked}
use Rattle.ledger.proofs.is_linked.Goals as goal

pub returns-then-p-k : goal.returns-then-p-k
returns-then-p-k c =
    and_goes _ (lt-ltb _ _ c.if-p-k.true) c.points_back.ensures
    ∙ cancellation_linked _ _ c.row-w.ensures c.partner_of-p.ensures c.if-w.false c.if-w-2.true

pub returns-else-p-k : goal.returns-else-p-k
returns-else-p-k c =
    and_stops _ _ (le-ltb _ _ c.if-p-k.false)
    ∙ cancellation_linked _ _ c.row-w.ensures c.partner_of-p.ensures c.if-w.false c.if-w-2.true

pub returns-then-k-p : goal.returns-then-k-p
returns-then-k-p c =
    and_goes _ c.if-k-p.true c.points_back-then-k-p.ensures
    ∙ cancelled_linked _ _ c.row-w.ensures c.partner_of-p.ensures c.if-w.false c.if-w-2.false

pub returns-else-k-p : goal.returns-else-k-p
returns-else-k-p c =
    and_stops _ _ c.if-k-p.false
    ∙ cancelled_linked _ _ c.row-w.ensures c.partner_of-p.ensures c.if-w.false c.if-w-2.false
