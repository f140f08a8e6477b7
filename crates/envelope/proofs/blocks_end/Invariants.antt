use Prim.Native.Nat.{◌+◌, ◌*◌}
use mathlib.Core.Path.{◌≡◌}
use lib.ListN.{drop}
use Rattle.text.specs.declared.Class.TheVariants.{RecordByte}
use Rattle.envelope.specs.Pieces.{run_of}
use Rattle.envelope.proofs.blocks_end.Given as goal

abbrev pub invariant-loop-w : goal.invariant-loop-w
invariant-loop-w l = record {
  place : l.end ≡ l.at + l.w-index * 16;
  same : l.at + run_of RecordByte (drop l.at l.s) ≡ l.end + run_of RecordByte (drop l.end l.s);
}
