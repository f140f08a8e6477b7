use Rattle.calls.proofs.TakingLaws.{going_ready, going_step, going_done}
use Rattle.calls.proofs.filing.take_records.Goals as goal

pub take_record-at-requires : goal.take_record-at-requires
take_record-at-requires c = going_ready _ _ _ _ _ _ _ _ _ _ c.loop-k.invariant c.loop-k-test.true

pub loop-k-preserved : goal.loop-k-preserved
loop-k-preserved c = going_step _ _ _ _ _ _ _ _ _ _ c.loop-k.invariant c.loop-k-test.true _ _ _ c.take_record-at.ensures

pub returns : goal.returns
returns c = going_done _ _ _ _ _ _ _ _ _ _ c.loop-k.invariant c.loop-k-test.false
