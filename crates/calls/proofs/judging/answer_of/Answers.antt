use mathlib.Core.Path.{refl}
use Rattle.calls.specs.Call.{answer_of}
use Rattle.calls.proofs.judging.answer_of.Goals as goal

pub returns : goal.returns
unfolding answer_of
returns c = rw (c.code.ensures, c.status.ensures) refl
