use mathlib.Core.Bool.{not}
use mathlib.Core.Path.{ap, ◌∙◌}
use Rattle.frame.proofs.EveryLaws.{every_none, every_more, every_broke}
use Rattle.ledger.proofs.CheckLaws.{precedes_words}
use Rattle.ledger.proofs.is_new_number.Goals as goal

pub loop-j-init : goal.loop-j-init
loop-j-init c = every_none _

pub returns-then-has_words : goal.returns-then-has_words
returns-then-has_words c =
    let words = precedes_words c.args.c.now c.args.k c.told-c c.requires c.loop-j.j c.loop-j-test.true c.row.ensures c.row-w.ensures
    c.read-first.ensures c.read-second.ensures c.has_words.ensures in
    every_broke _ _ c.loop-j.j c.loop-j-test.true (words ∙ ap not c.if-has_words.true)

pub loop-j-preserved : goal.loop-j-preserved
loop-j-preserved c =
    let words = precedes_words c.args.c.now c.args.k c.told-c c.requires c.loop-j.j c.loop-j-test.true c.row.ensures c.row-w.ensures
    c.read-first.ensures c.read-second.ensures c.has_words.ensures in
    every_more _ _ c.loop-j.invariant (words ∙ ap not c.if-has_words.false)
