use mathlib.Core.Bool.{true}
use mathlib.Core.Path.{◌≡◌}
use Rattle.frame.specs.Every.{every}
use Rattle.texts.specs.Texts.{text_row_ok}
use Rattle.texts.specs.Steps.{Entered}
use Rattle.texts.proofs.enter_rows.Given as goal

abbrev pub invariant-loop-k : goal.invariant-loop-k
invariant-loop-k l = (every l.k (text_row_ok l.t) ≡ true) × Entered l.base l.k l.t l.initial.rows l.rows
