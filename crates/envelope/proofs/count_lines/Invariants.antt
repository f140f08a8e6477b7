use Prim.Native.Nat.{◌-◌, ◌≤◌}
use mathlib.Core.Path.{◌≡◌}
use lib.ListN.{length}
use Rattle.envelope.specs.Body.{lines_at}
use Rattle.envelope.proofs.LineLaws.{lines_from}
use Rattle.envelope.proofs.count_lines.Given as goal

abbrev pub invariant-loop-p : goal.invariant-loop-p
invariant-loop-p l = record { few : l.n ≤ l.p; counted : lines_at l.s l.first ≡ lines_from l.s l.first l.n l.p }

abbrev pub decreases-loop-p : goal.decreases-loop-p
decreases-loop-p l = length l.s - l.p
