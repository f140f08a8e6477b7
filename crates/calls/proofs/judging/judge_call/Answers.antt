use mathlib.Core.Path.{sym}
use Rattle.std.proofs.lemmas.Result.{err_from_is_err_and}
use Rattle.refusal.proofs.RefusalLaws.{number_some}
use Rattle.calls.proofs.JudgingLaws.{judged_refused, judged_answered}
use Rattle.calls.proofs.judging.judge_call.Goals as goal

pub returns-in_err-refusal : goal.returns-in_err-refusal
returns-in_err-refusal c =
    let p = err_from_is_err_and c.from_residual.result c.from_residual.ensures.1 in
    rw (p.1, p.2) (judged_refused _ _ _ c.in_err-refusal.ensures (number_some _))

pub returns : goal.returns
returns c = judged_answered _ _ _ (sym c.in_ok-refusal.ensures) c.judged.ensures
