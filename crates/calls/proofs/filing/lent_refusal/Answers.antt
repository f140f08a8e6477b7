use native.Mathlib.Omega.{arith}
use borrow.Author.Tests.{le-leb, lt-leb}
use Rattle.frame.proofs.ReplyLaws.{unless_holds, unless_fails, first_applies, first_passes}
use Rattle.calls.specs.Filing.{lent_refusal}
use Rattle.calls.proofs.filing.lent_refusal.Goals as goal

pub returns-then-file-gt-FILE_LIMIT : goal.returns-then-file-gt-FILE_LIMIT
unfolding lent_refusal
returns-then-file-gt-FILE_LIMIT c = first_applies _ (unless_fails 1 (lt-leb _ _ c.if-file-gt-FILE_LIMIT.true)) (omega arith)

pub returns : goal.returns
unfolding lent_refusal
returns c = first_passes _ (unless_holds 1 (le-leb _ _ c.if-file-gt-FILE_LIMIT.false)) c.lent_flaw.ensures
