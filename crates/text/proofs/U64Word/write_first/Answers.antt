use Rattle.text.proofs.NumberLaws.{front_put, front_stays}
use Rattle.text.proofs.U64Word.write_first.Goals as goal

pub returns-in-Some : goal.returns-in-Some
returns-in-Some c = front_put 8 _ _ _ c.in-Some.ensures.cases.enough c.to_le_bytes.ensures

pub returns-in_default : goal.returns-in_default
returns-in_default c = front_stays _ _ _ c.in_default.ensures.cases
