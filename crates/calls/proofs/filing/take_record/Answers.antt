use Prim.Native.Nat.{◌+◌, ◌≤◌}
use native.Mathlib.Omega.{arith}
use lib.ListN.{length}
use Rattle.calls.proofs.TakingLaws.{end_within, end_taken}
use Rattle.calls.proofs.filing.take_record.Goals as goal

pub slice_bounds-admitted-end : goal.slice_bounds-admitted-end
slice_bounds-admitted-end c =
    let within : c.record_end-end.result + 2 ≤ length c.args.body.now = end_within _ _ _ _ _ _ _ c.requires c.record_end-end.ensures in
    omega (arith, within)

pub returns : goal.returns
returns c =
    end_taken _ _ _ _ _ _ _ c.requires c.record_end-end.ensures _ c.admitted-answer.ensures
    c.write.ensures
