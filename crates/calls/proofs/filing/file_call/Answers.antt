use native.Mathlib.Omega.{arith}
use mathlib.Core.Path.{sym}
use Rattle.std.proofs.lemmas.Result.{err_from_is_err_and}
use Rattle.refusal.proofs.RefusalLaws.{number_some}
use Rattle.calls.proofs.ReadingLaws.{report_whole, file_lent, file_unopened, file_full, file_open, file_taken}
use Rattle.calls.proofs.filing.file_call.Goals as goal

pub returns-in_err-lent_refusal : goal.returns-in_err-lent_refusal
returns-in_err-lent_refusal c =
    let p = err_from_is_err_and c.from_residual.result c.from_residual.ensures.1 in
    rw (p.1, p.2) (file_lent _ _ _ _ c.in_err-lent_refusal.ensures (number_some _))

pub returns-in_err-report : goal.returns-in_err-report
returns-in_err-report c =
    let p = err_from_is_err_and c.from_residual-in_err-report.result c.from_residual-in_err-report.ensures.1 in
    rw (p.1, p.2) (file_unopened _ _ _ _ (sym c.in_ok-lent_refusal.ensures) c.in_err-report.ensures)

pub overflow_mul-report : goal.overflow_mul-report
overflow_mul-report c = let whole = report_whole _ _ c.in_ok-report.ensures in omega (arith, whole.few)

pub returns-then-answers-report : goal.returns-then-answers-report
returns-then-answers-report c =
    file_full _ _ _ c.args.answers.now (sym c.in_ok-lent_refusal.ensures) c.in_ok-report.ensures c.if-answers-report.true

pub slice_bounds-take_records-count : goal.slice_bounds-take_records-count
slice_bounds-take_records-count c = let whole = report_whole _ _ c.in_ok-report.ensures in omega (arith, whole)

pub slice_bounds-take_records-start : goal.slice_bounds-take_records-start
slice_bounds-take_records-start c = let whole = report_whole _ _ c.in_ok-report.ensures in omega (arith, whole)

pub slice_bounds-take_records-end : goal.slice_bounds-take_records-end
slice_bounds-take_records-end c = let whole = report_whole _ _ c.in_ok-report.ensures in omega (arith, whole)

pub slice_bounds-take_records-count-2 : goal.slice_bounds-take_records-count-2
slice_bounds-take_records-count-2 c = let whole = report_whole _ _ c.in_ok-report.ensures in omega (arith, whole)

pub slice_bounds-take_records-start-2 : goal.slice_bounds-take_records-start-2
slice_bounds-take_records-start-2 c = let whole = report_whole _ _ c.in_ok-report.ensures in omega (arith, whole)

pub slice_bounds-take_records-end-2 : goal.slice_bounds-take_records-end-2
slice_bounds-take_records-end-2 c = let whole = report_whole _ _ c.in_ok-report.ensures in omega (arith, whole)

pub take_records-requires : goal.take_records-requires
take_records-requires c =
    file_open _ _ _ _ (sym c.in_ok-lent_refusal.ensures) c.in_ok-report.ensures c.if-answers-report.false

pub returns : goal.returns
returns c =
    file_taken _ _ _ _ (sym c.in_ok-lent_refusal.ensures) c.in_ok-report.ensures c.if-answers-report.false c.take_records.ensures
