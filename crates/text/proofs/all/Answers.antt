use Rattle.text.proofs.ByteLaws.{marks_go, marks_end}
use Rattle.text.proofs.all.Goals as goal

pub loop-b-preserved : goal.loop-b-preserved
loop-b-preserved c = let l = c.loop-b in marks_go _ _ _ l.marks l.invariant c.mark-marks.result c.loop-b-test.true c.mark-marks.ensures

pub returns : goal.returns
returns c = marks_end _ _ _ c.loop-b.marks c.loop-b.invariant c.loop-b-test.false
