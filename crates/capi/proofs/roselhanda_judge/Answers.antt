use Rattle.calls.proofs.JudgingLaws.{judged_decided}
use Rattle.capi.proofs.ExportLaws.{short_told, told_exported}
use Rattle.capi.proofs.roselhanda_judge.Goals as goal

pub returns-then-is_short : goal.returns-then-is_short
returns-then-is_short c =
    short_told _ (judged_decided _ _ _) _ c.is_short.ensures c.if-is_short.true
    c.short_number.ensures c.refusal.ensures

pub returns : goal.returns
returns c =
    told_exported _ (judged_decided _ _ _) _ c.is_short.ensures c.judge_call.result _ c.if-is_short.false
    c.judge_call.ensures c.tell.ensures.value c.tell.ensures.answer_after
