use Rattle.calls.proofs.CallLaws.{settles, settled_lem}
use Rattle.calls.proofs.admitted.Goals as goal

pub settle-requires : goal.settle-requires
settle-requires c = settles _ _ _ c.requires c.judged-foreseen.ensures

pub returns : goal.returns
returns c = settled_lem _ _ _ c.requires c.judged-foreseen.ensures c.settle.ensures
