use Rattle.std.proofs.Common.{◌≡◌, ◌<◌, [], length, get_or, refl, ap, sym, ◌∙◌, arith}
use borrow.Author.Tests.{eq-eqb, ne_eqb}
use Rattle.frame.proofs.EveryLaws.{every_none, every_more, every_broke, every_done}
use Rattle.frame.proofs.ListLaws.{chunk_part}
use Rattle.ledger.specs.Sound.{bank_count, compartment, compartment_size, sound_compartment, sound_ledger}
use Rattle.ledger.proofs.sound_ledger.Goals as goal

pub returns-then-l-ne-LEDGER_SIZE : goal.returns-then-l-ne-LEDGER_SIZE
unfolding sound_ledger
returns-then-l-ne-LEDGER_SIZE c = rw (ne_eqb _ _ c.if-l-ne-LEDGER_SIZE.true) refl

pub loop-c-init : goal.loop-c-init
loop-c-init c = every_none _

pub returns-then-not-sound_compartment : goal.returns-then-not-sound_compartment
unfolding sound_ledger
returns-then-not-sound_compartment c =
    let l = c.args.l.now in
    let r = c.loop-c.c-index in
    let inside : r < bank_count = omega (arith, c.loop-c-test.true, c.as_chunks.ensures.front_len, c.if-l-ne-LEDGER_SIZE.false) in
    let lent : get_or c.as_chunks.result.0.now r [] ≡ compartment r l =
    ap (λ cs. get_or cs r []) c.as_chunks.ensures.front ∙ chunk_part compartment_size _ l r [] (omega (arith, inside, c.if-l-ne-LEDGER_SIZE.false)) in
    rw (eq-eqb _ _ c.if-l-ne-LEDGER_SIZE.false)
    (every_broke _ _ r inside (ap sound_compartment (sym lent) ∙ sym c.sound_compartment.ensures ∙ c.if-not-sound_compartment.true))

pub loop-c-preserved : goal.loop-c-preserved
loop-c-preserved c =
    let l = c.args.l.now in
    let r = c.loop-c.c-index in
    let inside : r < bank_count = omega (arith, c.loop-c-test.true, c.as_chunks.ensures.front_len, c.if-l-ne-LEDGER_SIZE.false) in
    let lent : get_or c.as_chunks.result.0.now r [] ≡ compartment r l =
    ap (λ cs. get_or cs r []) c.as_chunks.ensures.front ∙ chunk_part compartment_size _ l r [] (omega (arith, inside, c.if-l-ne-LEDGER_SIZE.false)) in
    every_more _ _ c.loop-c.invariant (ap sound_compartment (sym lent) ∙ sym c.sound_compartment.ensures ∙ c.if-not-sound_compartment.false)

pub returns : goal.returns
unfolding sound_ledger
returns c =
    let count : length c.as_chunks.result.0.now ≡ bank_count = omega (arith, c.as_chunks.ensures.front_len, c.if-l-ne-LEDGER_SIZE.false) in
    rw (eq-eqb _ _ c.if-l-ne-LEDGER_SIZE.false)
    (every_done _ _ c.loop-c.c-index (omega (arith, count, c.loop-c.auto.c-index-end)) (omega (arith, count, c.loop-c-test.false)) c.loop-c.invariant)
