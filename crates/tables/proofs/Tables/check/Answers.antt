use Rattle.std.proofs.Common.{sym, ap}
use mathlib.Core.Bool.{not}
use Rattle.tables.specs.Tables.{lent}
use Rattle.tables.proofs.FlawLaws.{reporters_refuse, currencies_refuse, tables_tested}
use Rattle.tables.proofs.Tables.check.Goals as goal

pub returns-then-not-reporters_ok : goal.returns-then-not-reporters_ok
returns-then-not-reporters_ok c = reporters_refuse (lent c.args.self) c.reporters_ok.ensures (ap not c.if-not-reporters_ok.true)

pub returns-then-not-currencies_ok : goal.returns-then-not-currencies_ok
returns-then-not-currencies_ok c =
    let reporters = ap not c.if-not-reporters_ok.false in
    currencies_refuse (lent c.args.self) c.reporters_ok.ensures reporters c.currencies_ok.ensures (ap not c.if-not-currencies_ok.true)

pub returns : goal.returns
returns c =
    let reporters = ap not c.if-not-reporters_ok.false in
    sym (tables_tested (lent c.args.self) c.reporters_ok.ensures reporters c.currencies_ok.ensures (ap not c.if-not-currencies_ok.false))
