use mathlib.Core.Bool.{◌&&◌}
use mathlib.Core.Path.{◌≡◌}
use lib.Dec.{eqb}
use lib.ListN.{drop}
use Rattle.text.specs.Class.{belongs_to}
use Rattle.text.specs.Bytes.{all}
use Rattle.text.proofs.all.Given as goal

abbrev pub invariant-loop-b : goal.invariant-loop-b
invariant-loop-b l = all (belongs_to l.c) l.s ≡ eqb l.marks 0 && all (belongs_to l.c) (drop l.b-index l.s)
