use Rattle.std.specs.Prelude.{length, ◌≤◌}
use Rattle.files.proofs.edit.edited.Given as goal

abbrev pub invariant-loop-token : goal.invariant-loop-token
invariant-loop-token l = l.n ≤ length l.buffer
