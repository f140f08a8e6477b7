use Rattle.std.proofs.Common.{◌≤◌, ◌<◌, [], refl, sym, ◌∙◌, arith}
use Rattle.frame.proofs.EveryLaws.{every_none, every_more, every_broke}
use Rattle.tables.specs.Currencies.{currency_count}
use Rattle.tables.proofs.CodeLaws.{code_low, code_special, code_in_order, code_kept}
use Rattle.tables.proofs.ascends.Goals as goal

pub loop-w-init : goal.loop-w-init
loop-w-init c = (every_none _, refl)

pub returns-then-x-before : goal.returns-then-x-before
returns-then-x-before c =
    let inside : c.loop-w.w-index < currency_count c.args.t.now = omega (arith, c.codes-w-items.ensures.count, c.loop-w-test.true) in
    let code = c.codes-w-items.ensures.each _ [] c.loop-w-test.true in
    let low : c.big_endian-x.result ≤ c.loop-w.before = omega (arith, c.if-x-before.true) in
    every_broke _ _ _ inside (code_low _ c.requires.0 c.requires.1 _ inside c.loop-w.invariant.1 code c.big_endian-x.ensures low)

pub returns-then-is_special : goal.returns-then-is_special
returns-then-is_special c =
    let inside : c.loop-w.w-index < currency_count c.args.t.now = omega (arith, c.codes-w-items.ensures.count, c.loop-w-test.true) in
    let code = c.codes-w-items.ensures.each _ [] c.loop-w-test.true in
    every_broke _ _ _ inside
    (code_special _ c.requires.0 c.requires.1 _ inside c.loop-w.invariant.1 code c.big_endian-x.ensures (sym c.is_special.ensures ∙ c.if-is_special.true))

pub loop-w-preserved : goal.loop-w-preserved
loop-w-preserved c =
    let inside : c.loop-w.w-index < currency_count c.args.t.now = omega (arith, c.codes-w-items.ensures.count, c.loop-w-test.true) in
    let code = c.codes-w-items.ensures.each _ [] c.loop-w-test.true in
    let read = c.big_endian-x.ensures in
    let above : c.loop-w.before < c.big_endian-x.result = omega (arith, c.if-x-before.false) in
    let plain = sym c.is_special.ensures ∙ c.if-is_special.false in (
      every_more _ _ c.loop-w.invariant.0 (code_in_order _ c.requires.0 c.requires.1 _ inside c.loop-w.invariant.1 code read above plain),
      code_kept _ c.requires.0 c.requires.1 _ inside c.loop-w.invariant.1 code read,
    )
