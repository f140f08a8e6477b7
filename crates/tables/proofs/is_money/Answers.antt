use mathlib.Core.Path.{◌∙◌}
use Rattle.text.proofs.SameLaws.{cmp_order}
use native.Mathlib.Omega.{arith}
use mathlib.Core.List.{[]}
use Rattle.text.proofs.SearchLaws.{left_all, left_none, left_hit, left_above, left_under}
use Rattle.tables.specs.Currencies.{currency_at, found_money}
use Rattle.tables.proofs.is_money.Goals as goal

pub loop-low-init : goal.loop-low-init
loop-low-init c = left_all _ (currency_at _) _ _ c.codes-codes.ensures.count

pub returns-in-Equal : goal.returns-in-Equal
unfolding found_money
returns-in-Equal c =
    left_hit _ _ _ _ _ c.loop-low.invariant c.loop-low-test.true (c.codes-codes.ensures.each _ [] (omega (arith, c.loop-low.invariant.0, c.codes-codes.ensures.count)))
    (c.cmp.ensures ∙ cmp_order _ _) c.in-Equal.is

pub loop-low-preserved-in-Less : goal.loop-low-preserved-in-Less
loop-low-preserved-in-Less c =
    left_above _ _ _ _ _ c.loop-low.invariant c.loop-low-test.true (c.codes-codes.ensures.each _ [] (omega (arith, c.loop-low.invariant.0, c.codes-codes.ensures.count)))
    (c.cmp.ensures ∙ cmp_order _ _) c.in-Less.is

pub loop-low-preserved : goal.loop-low-preserved
loop-low-preserved c =
    left_under _ _ _ _ _ c.loop-low.invariant c.loop-low-test.true (c.codes-codes.ensures.each _ [] (omega (arith, c.loop-low.invariant.0, c.codes-codes.ensures.count)))
    (c.cmp.ensures ∙ cmp_order _ _) c.in-Greater.is

pub returns : goal.returns
unfolding found_money
returns c = left_none _ _ _ _ _ c.loop-low.invariant c.loop-low-test.false
