use mathlib.Core.Path.{ap}
use mathlib.Core.Bool.{not}
use Prim.Native.Nat.{◌*◌}
use mathlib.Core.Path.{sym, ◌∙◌}
use Rattle.frame.proofs.EveryLaws.{every_none, every_more}
use Rattle.tables.specs.Reporters.{reporter_limit, reporter_size, reporter_ok, reporters_ok}
use Rattle.tables.proofs.TableLaws.{table_long, table_ragged, table_broke, table_done}
use borrow.Author.Rules.{rules}
use Rattle.tables.proofs.reporters_ok.Goals as goal

pub returns-then-t : goal.returns-then-t
unfolding reporters_ok
returns-then-t c =
    let t = c.args.t.now in
    table_long (reporter_limit * reporter_size) reporter_size (reporter_ok t) t c.if-t.true

pub returns-then-t-ne0 : goal.returns-then-t-ne0
unfolding reporters_ok
returns-then-t-ne0 c =
    let t = c.args.t.now in
    table_ragged (reporter_limit * reporter_size) reporter_size (reporter_ok t) t c.if-t-ne0.true

pub loop-k-init : goal.loop-k-init
loop-k-init c = every_none _

pub returns-then-not-reporter_ok : goal.returns-then-not-reporter_ok
unfolding reporters_ok
returns-then-not-reporter_ok c =
    let t = c.args.t.now in
    table_broke (reporter_limit * reporter_size) reporter_size (reporter_ok t) t c.loop-k.k c.if-t.false
    c.if-t-ne0.false (search rules) c.reporter_ok.ensures (ap not c.if-not-reporter_ok.true)

pub loop-k-preserved : goal.loop-k-preserved
loop-k-preserved c = every_more _ _ c.loop-k.invariant (sym c.reporter_ok.ensures ∙ (c.if-not-reporter_ok.false))

pub returns : goal.returns
unfolding reporters_ok
returns c =
    let t = c.args.t.now in
    table_done (reporter_limit * reporter_size) reporter_size (reporter_ok t) t c.loop-k.k c.if-t.false c.if-t-ne0.false
    (search rules) (search rules) c.loop-k.invariant
