use Rattle.text.proofs.NumberLaws.{put_rest, put_nowhere}
use Rattle.text.proofs.write.Goals as goal

pub returns-then-at-s : goal.returns-then-at-s
returns-then-at-s g c = put_rest _ _ _ _ c.if-at-s.true c.write_first.ensures

pub returns-else-at-s : goal.returns-else-at-s
returns-else-at-s g c = put_nowhere _ _ _ _ c.if-at-s.false
