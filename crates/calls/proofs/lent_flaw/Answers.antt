use mathlib.Core.Path.{ap}
use mathlib.Core.Bool.{not}
use Rattle.std.proofs.lemmas.Result.{err_from_is_err_and}
use Rattle.refusal.proofs.RefusalLaws.{number_some}
use Rattle.tables.specs.Tables.{lent}
use Rattle.calls.proofs.CallLaws.{lent_tables, lent_ledger, lent_none}
use Rattle.calls.proofs.lent_flaw.Goals as goal

pub returns-in_err-check : goal.returns-in_err-check
returns-in_err-check c =
    let p = err_from_is_err_and c.from_residual.result c.from_residual.ensures.1 in
    rw (p.1, p.2) (lent_tables (lent c.args.tables) _ c.in_err-check.ensures (number_some _))

pub returns-then-not-sound_ledger : goal.returns-then-not-sound_ledger
returns-then-not-sound_ledger c =
    lent_ledger (lent c.args.tables) _ c.in_ok-check.ensures c.sound_ledger.ensures (ap not c.if-not-sound_ledger.true)

pub returns : goal.returns
returns c = lent_none (lent c.args.tables) _ c.in_ok-check.ensures c.sound_ledger.ensures (ap not c.if-not-sound_ledger.false)
