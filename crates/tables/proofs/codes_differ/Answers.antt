use mathlib.Core.Path.{sym, ◌∙◌}
use Rattle.tables.proofs.ReporterLaws.{codes_apart}
use Rattle.tables.proofs.codes_differ.Goals as goal

pub returns-then-read : goal.returns-then-read
returns-then-read c =
    rw (← c.code_of.ensures, ← c.code_of-2.ensures)
    (codes_apart c.code_of.result.now c.code_of-2.result.now (λ e. c.if-read.true (c.read.ensures ∙ e ∙ sym c.read-2.ensures)))
