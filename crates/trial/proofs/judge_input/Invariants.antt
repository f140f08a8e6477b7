use Prim.Native.Nat.{◌*◌, ◌≤◌}
use Rattle.trial.proofs.judge_input.Given as goal

abbrev pub invariant-loop-reads : goal.invariant-loop-reads
invariant-loop-reads g l = l.done.number ≤ l.reads * 65536
