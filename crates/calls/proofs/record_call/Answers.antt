use mathlib.Core.Path.{sym, ◌∙◌}
use Rattle.std.proofs.lemmas.Result.{err_from_is_err_and}
use Rattle.refusal.proofs.RefusalLaws.{number_some}
use Rattle.calls.proofs.CallLaws.{call_refused}
use Rattle.calls.proofs.JudgingLaws.{in_a_row_lem}
use Rattle.calls.proofs.record_call.Goals as goal

pub returns-in_err-refusal : goal.returns-in_err-refusal
returns-in_err-refusal c =
    let p = err_from_is_err_and c.from_residual.result c.from_residual.ensures.1 in
    rw (p.1, p.2) (call_refused _ _ _ c.in_err-refusal.ensures (number_some _) ∙ sym (in_a_row_lem _ _ _))

pub returns : goal.returns
returns c = c.admitted.ensures ∙ sym (in_a_row_lem _ _ _)
