use mathlib.Core.Path.{sym, ◌∙◌}
use Rattle.texts.proofs.IndexLaws.{open_blank, open_ours, index_broken, ours_broken, member_broken, index_filled}
use Rattle.texts.proofs.Lists.fill.Goals as goal

pub enter-requires : goal.enter-requires
enter-requires c = open_blank _ c.requires

pub returns-then-not-enter : goal.returns-then-not-enter
returns-then-not-enter c =
    c.blank.ensures ∙ index_broken _ _ (ours_broken _ _ (sym c.enter.ensures.0 ∙ (c.if-not-enter.true)))

pub enter-requires-2 : goal.enter-requires-2
enter-requires-2 c =
    let entered = (c.if-not-enter.false) in
    open_ours _ _ _ c.requires (c.enter.ensures.2 entered) (sym c.enter.ensures.0 ∙ entered)

pub returns-then-not-enter-2 : goal.returns-then-not-enter-2
returns-then-not-enter-2 c =
    c.blank-then-not-enter-2.ensures ∙ index_broken _ _ (member_broken _ _ (sym c.enter-2.ensures.0 ∙ (c.if-not-enter-2.true)))

pub returns : goal.returns
returns c =
    let first = (c.if-not-enter.false) in
    let second = (c.if-not-enter-2.false) in
    index_filled _ _ _ _ _ c.requires (sym c.enter.ensures.0 ∙ first) (sym c.enter-2.ensures.0 ∙ second) (c.enter.ensures.2 first) (c.enter-2.ensures.2 second)
