use Rattle.std.proofs.Common.{◌∙◌}
use Rattle.text.proofs.NumberLaws.{front_in, front_out}
use Rattle.text.proofs.U64Word.read_first.Goals as goal

pub returns-in-Some : goal.returns-in-Some
returns-in-Some c = c.from_le_bytes.ensures ∙ front_in 7 _ _ c.in-Some.ensures.cases

pub returns-in-None : goal.returns-in-None
returns-in-None c = front_out _ _ c.in-None.ensures.cases
