use native.Mathlib.Omega.{arith}
use mathlib.Core.Path.{◌≡◌, ap, sym, ◌∙◌}
use borrow.Author.Rules.{rules}
use lib.ListN.{length-take, length-drop}
use Rattle.std.specs.Prelude.{Result, Ok, Err}
use Rattle.frame.specs.Reply.{accepted}
use Rattle.refusal.specs.declared.Refusal.{Refusal}
use Rattle.refusal.proofs.RefusalLaws.{number_some}
use Rattle.envelope.specs.declared.Layout.{Layout}
use Rattle.envelope.specs.Envelope.{report_class, report_of, opened_as, records_from}
use Rattle.envelope.proofs.OpenedLaws.{Whole, opened_whole}
use Rattle.error_file.proofs.ErrorLaws.{date_digits, minute_digits, flaw_by, flaw_free, report_lined}
use Rattle.error_file.proofs.ErrorLaws.{error_long, error_unopened, error_flawed, error_on}
use Rattle.error_file.proofs.write.Goals as goal
use Rattle.std.proofs.Common.{ℕ, List}

-- the report that was opened, and its layout
module _ (report : List ℕ) (o : Result Layout Refusal) (l : Layout) (e : opened_as o ≡ report_of report) (is : o ≡ Ok l) where
  opened : report_of report ≡ accepted l
  opened = sym e ∙ ap opened_as is

  whole : Whole report l
  whole = opened_whole report_class _ _ opened

pub returns-then-report-gt-FILE_LIMIT : goal.returns-then-report-gt-FILE_LIMIT
returns-then-report-gt-FILE_LIMIT c = error_long _ _ _ _ _ _ _ c.if-report-gt-FILE_LIMIT.true

pub returns-in_err-l : goal.returns-in_err-l
returns-in_err-l c =
    let gone : c.from_residual.result ≡ Err c.in_err-l.field-0.0 = search rules in
    rw gone (error_unopened _ _ _ _ _ _ _ c.if-report-gt-FILE_LIMIT.false c.open_report.ensures c.in_err-l.was)

pub flaw-requires : goal.flaw-requires
flaw-requires c = (whole _ _ _ c.open_report.ensures c.in_ok-l.was).few

pub returns-in_err-flaw : goal.returns-in_err-flaw
returns-in_err-flaw c =
    let gone : c.from_residual-in_err-flaw.result ≡ Err c.in_err-flaw.field-0.0 = search rules in
    rw gone
    (error_flawed _ _ _ _ _ _ _ c.if-report-gt-FILE_LIMIT.false _ (opened _ _ _ c.open_report.ensures c.in_ok-l.was)
    (flaw_by _ _ _ _ _ _ c.index.ensures c.in_err-flaw.ensures) (number_some c.in_err-flaw.field-0.0))

pub invariant_of-write_opened : goal.invariant_of-write_opened
invariant_of-write_opened c =
    let a = c.args in
    let free = flaw_free _ _ _ _ _ _ (sym (flaw_by a.lists.member.now a.lists.ours.now a.answers.now a.date.now a.time.now c.in_ok-l.l.records c.index.ensures c.in_ok-flaw.ensures)) in
    record { in_order = free.lists; indexed = c.index.ensures }

pub write_opened-requires : goal.write_opened-requires
write_opened-requires c =
    let a = c.args in
    let none = sym (flaw_by a.lists.member.now a.lists.ours.now a.answers.now a.date.now a.time.now c.in_ok-l.l.records c.index.ensures c.in_ok-flaw.ensures) in
    let free = flaw_free _ _ _ _ _ _ none in
    let short = c.if-report-gt-FILE_LIMIT.false in (
      report_lined _ _ _ _ _ _ _ (whole _ _ _ c.open_report.ensures c.in_ok-l.was) short free,
      date_digits _ free.dated,
      minute_digits _ free.timed,
      simp (length-take, length-drop) (omega (arith, short)),
      simp (length-take, length-drop) (omega (arith, short)),
    )

pub returns : goal.returns
unfolding records_from
returns c =
    let a = c.args in
    let none = sym (flaw_by a.lists.member.now a.lists.ours.now a.answers.now a.date.now a.time.now c.in_ok-l.l.records c.index.ensures c.in_ok-flaw.ensures) in
    error_on _ _ _ _ _ _ _ c.if-report-gt-FILE_LIMIT.false _ (opened _ _ _ c.open_report.ensures c.in_ok-l.was) none c.write_opened.ensures
