use mathlib.Core.Path.{ap}
use mathlib.Core.Bool.{not}
use native.Mathlib.Omega.{arith}
use mathlib.Core.List.{[]}
use Rattle.frame.proofs.ReplyLaws.{test_applies, test_passes, first_end}
use Rattle.calls.specs.Call.{call_flaw}
use Rattle.calls.proofs.call_flaw.Goals as goal

pub returns-then-not-is_name : goal.returns-then-not-is_name
unfolding call_flaw
returns-then-not-is_name c = test_applies 13 _ (omega arith) c.is_name.ensures (ap not c.if-not-is_name.true)

pub returns-then-not-is_record : goal.returns-then-not-is_record
unfolding call_flaw
returns-then-not-is_record c =
    test_passes 13 _ c.is_name.ensures (ap not c.if-not-is_name.false)
    (test_applies 14 [] (omega arith) c.is_record.ensures (ap not c.if-not-is_record.true))

pub returns : goal.returns
unfolding call_flaw
returns c =
    test_passes 13 _ c.is_name.ensures (ap not c.if-not-is_name.false)
    (test_passes 14 [] c.is_record.ensures (ap not c.if-not-is_record.false) first_end)
