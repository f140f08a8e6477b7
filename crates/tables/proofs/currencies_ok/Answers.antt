use Prim.Native.Nat.{◌*◌}
use native.Mathlib.Omega.{arith}
use mathlib.Core.Path.{sym, ◌∙◌}
use Rattle.tables.specs.Currencies.{currency_limit, currency_size, currency_ok, currencies_ok}
use Rattle.tables.proofs.TableLaws.{table_long, table_ragged, table_whole}
use Rattle.tables.proofs.CodeLaws.{not_capitals}
use Rattle.tables.proofs.currencies_ok.Goals as goal

pub returns-then-t : goal.returns-then-t
unfolding currencies_ok
returns-then-t c =
    let t = c.args.t.now in
    table_long (currency_limit * currency_size) currency_size (currency_ok t) t c.if-t.true

pub returns-then-t-ne0 : goal.returns-then-t-ne0
unfolding currencies_ok
returns-then-t-ne0 c =
    let t = c.args.t.now in
    table_ragged (currency_limit * currency_size) currency_size (currency_ok t) t c.if-t-ne0.true

pub returns-then-all : goal.returns-then-all
unfolding currencies_ok
returns-then-all c =
    let t = c.args.t.now in
    c.ascends.ensures ∙ table_whole (currency_limit * currency_size) currency_size (currency_ok t) t c.if-t.false c.if-t-ne0.false

pub returns-else-all : goal.returns-else-all
unfolding currencies_ok
returns-else-all c =
    let t = c.args.t.now in
    c.if-all.false ∙ not_capitals t (omega arith) (sym c.all.ensures ∙ c.if-all.false)
    ∙ table_whole (currency_limit * currency_size) currency_size (currency_ok t) t c.if-t.false c.if-t-ne0.false
