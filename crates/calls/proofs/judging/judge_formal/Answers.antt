use mathlib.Core.Path.{refl}
use Rattle.calls.proofs.CallLaws.{formal_by_lem}
use Rattle.calls.proofs.judging.judge_formal.Goals as goal

pub returns-in-Ok : goal.returns-in-Ok
returns-in-Ok c =
    formal_by_lem _ _ _ _ c.is_whole.ensures c.field.ensures.bytes c.field-2.ensures.bytes c.check.ensures (rw (c.in-Ok.is, c.judge.ensures) refl)

pub returns-in-Err : goal.returns-in-Err
returns-in-Err c = formal_by_lem _ _ _ _ c.is_whole.ensures c.field.ensures.bytes c.field-2.ensures.bytes c.check.ensures (rw c.in-Err.is refl)
