use native.Mathlib.Omega.{arith}
use mathlib.Core.Path.{sym, ◌∙◌}
use Rattle.fields.proofs.FieldLaws.{index_short, stops_broken}
use Rattle.fields.proofs.Record.of.Goals as goal

pub returns-then-bytes-lt38-clause-index : goal.returns-then-bytes-lt38-clause-index
returns-then-bytes-lt38-clause-index c = sym (stops_broken _ (sym (index_short c.args.bytes.now (omega arith))))

pub returns-then-not-fill-clause-index : goal.returns-then-not-fill-clause-index
returns-then-not-fill-clause-index c = sym (stops_broken _ (sym c.fill.ensures.0 ∙ c.if-not-fill.true))
