use Rattle.answer.proofs.AnswerLaws.{answer_filled}
use Rattle.answer.proofs.fill.Goals as goal

pub returns : goal.returns
returns c = answer_filled c.args.a c.args.w.now c.requires c.write.ensures c.write-2.ensures c.write-3.ensures c.write-4.ensures
