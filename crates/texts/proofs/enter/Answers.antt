use mathlib.Core.Bool.{false≢true}
use mathlib.Core.Path.{sym, ◌∙◌}
use Rattle.texts.proofs.TextLaws.{broken_size, broken_count, broken_bytes, rows_decide}
use Rattle.texts.proofs.enter.Goals as goal

pub returns-then-t-ne0 : goal.returns-then-t-ne0
returns-then-t-ne0 c = (broken_size c.args.t.now c.if-t-ne0.true, c.requires.size, λ t. absurd (false≢true t))

pub returns-then-t-gt-CODE_COUNT : goal.returns-then-t-gt-CODE_COUNT
returns-then-t-gt-CODE_COUNT c =
    (broken_count c.args.t.now c.if-t-gt-CODE_COUNT.true, c.requires.size, λ t. absurd (false≢true t))

pub returns-then-not-all : goal.returns-then-not-all
returns-then-not-all c =
    (broken_bytes _ (sym c.all.ensures ∙ (c.if-not-all.true)), c.requires.size, λ t. absurd (false≢true t))

pub returns : goal.returns
returns c =
    let c-enter-rows = c.enter_rows in
    (rows_decide _ c.if-t-ne0.false c-enter-rows.ensures.0, c-enter-rows.ensures.1, c-enter-rows.ensures.2)
