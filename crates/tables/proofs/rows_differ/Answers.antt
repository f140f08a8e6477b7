use mathlib.Core.Path.{sym, ◌∙◌}
use Rattle.tables.proofs.ReporterLaws.{words_apart}
use Rattle.tables.proofs.rows_differ.Goals as goal

pub returns-then-not-may_agree : goal.returns-then-not-may_agree
returns-then-not-may_agree c = words_apart c.args.v.now c.args.w.now (sym c.may_agree.ensures ∙ c.if-not-may_agree.true)
