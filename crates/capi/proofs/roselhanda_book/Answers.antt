use Rattle.frame.proofs.Consequences.{single_decided}
use Rattle.calls.specs.Judging.{booking_rules}
use Rattle.capi.proofs.ExportLaws.{short_told, told_exported}
use Rattle.capi.proofs.roselhanda_book.Goals as goal

pub returns-then-is_short : goal.returns-then-is_short
returns-then-is_short c =
    short_told _ (single_decided (booking_rules _) _ _) _ c.is_short.ensures c.if-is_short.true
    c.short_number.ensures c.booking_refusal.ensures

pub returns : goal.returns
returns c =
    told_exported _ (single_decided (booking_rules _) _ _) _ c.is_short.ensures c.book_call.result _ c.if-is_short.false
    c.book_call.ensures c.tell.ensures.value c.tell.ensures.answer_after
