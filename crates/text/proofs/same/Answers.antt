use lib.ListN.{length}
use Rattle.text.proofs.ByteLaws.{same_apart}
use Rattle.text.proofs.same.Goals as goal

pub returns-then-a-b : goal.returns-then-a-b
returns-then-a-b c = same_apart length _ _ c.if-a-b.true
