use borrow.Author.Tests.{le-leb, lt-leb}
use Rattle.frame.proofs.BoolLaws.{and_goes, and_stops}
use Rattle.calls.specs.Call.{record_form}
use Rattle.calls.proofs.is_record.Goals as goal

pub returns-then-record-le-RECORD_LIMIT : goal.returns-then-record-le-RECORD_LIMIT
unfolding record_form
returns-then-record-le-RECORD_LIMIT c = and_goes _ (le-leb _ _ c.if-record-le-RECORD_LIMIT.true) c.all.ensures

pub returns-else-record-le-RECORD_LIMIT : goal.returns-else-record-le-RECORD_LIMIT
unfolding record_form
returns-else-record-le-RECORD_LIMIT c = and_stops _ _ (lt-leb _ _ c.if-record-le-RECORD_LIMIT.false)
