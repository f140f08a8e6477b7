use Rattle.std.specs.Prelude.{◌<◌}
use Rattle.files.proofs.checksum.adler.Given as goal

abbrev pub invariant-loop-b : goal.invariant-loop-b
invariant-loop-b l = (l.sum < 65521) × (l.sums < 65521)
