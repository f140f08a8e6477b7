use mathlib.Core.Bool.{false≢true}
use mathlib.Core.Path.{sym, ◌∙◌}
use Rattle.frame.proofs.EveryLaws.{every_none, every_more, every_broke}
use Rattle.texts.specs.Texts.{text_row_ok}
use Rattle.texts.proofs.TextLaws.{row_tested, row_code, row_bytes, row_unformed}
use Rattle.texts.proofs.IndexLaws.{entered_none, entered_twice, entered_good, entered_more}
use Rattle.texts.proofs.enter_rows.Goals as goal

pub loop-k-init : goal.loop-k-init
loop-k-init c = (every_none (text_row_ok c.args.t.now), entered_none _ _ _ c.requires.0)

pub returns-then-not-all : goal.returns-then-not-all
returns-then-not-all c =
    let inside = c.loop-k-test.true in
    let tested = row_tested _ _ inside c.front.ensures.bytes c.all.ensures in
    (every_broke _ _ _ inside (row_unformed _ _ (tested ∙ (c.if-not-all.true))), c.loop-k.invariant.1.size, λ t. absurd (false≢true t))

pub shape_of-rows-then-base-rows : goal.shape_of-rows-then-base-rows
shape_of-rows-then-base-rows c =
    c.loop-k.invariant.1.size ∙ sym c.requires.0.size

pub returns-then-base-rows : goal.returns-then-base-rows
returns-then-base-rows c =
    let c-loop = c.loop-k in
    let inside = c.loop-k-test.true in
    let twice = entered_twice _ _ _ _ _ c.requires.0 c-loop.invariant.1 (row_code _ _ inside c.code_of-code.ensures.0) c.code_of-code.ensures.1 in
    (every_broke _ _ _ inside (twice c.if-base-rows.true), c-loop.invariant.1.size, λ t. absurd (false≢true t))

pub loop-k-preserved : goal.loop-k-preserved
loop-k-preserved c =
    let inside = c.loop-k-test.true in
    let l = c.loop-k in
    let here = row_code _ _ inside c.code_of-code.ensures.0 in
    let digits = row_tested _ _ inside c.front.ensures.bytes c.all.ensures ∙ (c.if-not-all.false) in
    let texts = row_bytes _ _ inside c.requires.2 in
    let good = entered_good _ _ _ _ _ c.requires.0 l.invariant.1 here c.code_of-code.ensures.1 digits texts c.if-base-rows.false in
    let more = entered_more _ _ _ _ _ c.requires.0 l.invariant.1 here c.code_of-code.ensures.1 c.if-base-rows.false in
    (every_more _ _ l.invariant.0 good, more)
