use mathlib.Core.Bool.{not}
use mathlib.Core.Path.{ap, sym, refl}
use native.Mathlib.Omega.{arith}
use borrow.Author.Tests.{not-true, not-false}
use Rattle.failures.specs.Failures.{added_from, no_failure}
use Rattle.failures.proofs.FailureLaws.{added_some}
use Rattle.sender.specs.Sender.{sender_tests, sender_check}
use Rattle.sender.proofs.SenderLaws.{check_passes, check_fails, check_unfound}
use Rattle.sender.proofs.check.Goals as goal

pub returns-then-not-whole : goal.returns-then-not-whole
unfolding sender_check sender_tests added_from
returns-then-not-whole c =
    let torn = not-true c.args.whole (ap not c.if-not-whole.true) in
    rw (c.add.ensures, c.none.ensures, torn, added_some no_failure 0 (omega arith)) refl

pub returns-in-Some : goal.returns-in-Some
returns-in-Some c =
    let failed = rw (c.none-2.ensures, c.judge_reporter-tests.ensures) at c.add_from-failed.ensures in
    rw (not-false c.args.whole (ap not c.if-not-whole.false)) (check_passes _ _ _ _ failed (sym c.if-is_empty.ensures) c.in-Some.ensures)

pub returns-in_default : goal.returns-in_default
returns-in_default c =
    let failed = rw (c.none-2.ensures, c.judge_reporter-tests.ensures) at c.add_from-failed.ensures in
    rw (not-false c.args.whole (ap not c.if-not-whole.false)) (check_fails _ _ _ _ failed (sym c.if-is_empty.ensures))

pub returns-in_default-2 : goal.returns-in_default-2
returns-in_default-2 c =
    let failed = rw (c.none-2.ensures, c.judge_reporter-tests.ensures) at c.add_from-failed.ensures in
    rw (not-false c.args.whole (ap not c.if-not-whole.false)) (check_unfound _ _ _ _ failed c.in_default.ensures)
