use Rattle.std.proofs.lemmas.Result.{err_from_is_err_and}
use Rattle.refusal.proofs.RefusalLaws.{number_some}
use Rattle.calls.proofs.CallLaws.{refused_first, refused_last}
use Rattle.calls.proofs.refusal.Goals as goal

pub returns-in_err-lent_flaw : goal.returns-in_err-lent_flaw
returns-in_err-lent_flaw c =
    let p = err_from_is_err_and c.from_residual.result c.from_residual.ensures.1 in
    rw (p.1, p.2) (refused_first _ _ _ c.in_err-lent_flaw.ensures (number_some _))

pub returns : goal.returns
returns c = refused_last _ _ _ c.in_ok-lent_flaw.ensures c.call_flaw.ensures
