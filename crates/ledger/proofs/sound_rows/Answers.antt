use native.Mathlib.Omega.{arith}
use mathlib.Core.Bool.{not}
use mathlib.Core.Path.{refl, ap, sym, ◌∙◌}
use lib.ListN.{length-set}
use borrow.Author.Tests.{ne_eqb}
use Rattle.frame.proofs.EveryLaws.{every_none, every_more, every_broke}
use Rattle.text.specs.Class.{is_zero}
use Rattle.text.specs.Bytes.{all}
use Rattle.ledger.specs.Row.{state, filled_row}
use Rattle.ledger.specs.Slots.{slot_of}
use Rattle.ledger.proofs.CheckLaws.{free_rest}
use Rattle.ledger.proofs.SlotLaws.{marked_more}
use Rattle.ledger.proofs.sound_rows.Goals as goal

pub loop-k-init : goal.loop-k-init
loop-k-init c = (every_none _, every_none _, (λ j m. absurd (omega (arith, m))), refl)

pub returns-then-w : goal.returns-then-w
returns-then-w c =
    let l = c.loop-k in
    c.is_zero.ensures ∙ ap (all is_zero) c.rest.ensures.bytes
    ∙ free_rest _ c.told-c l.k c.loop-k-test.true l.invariant.0 (ap state (sym c.row-w.ensures) ∙ c.if-w.true)

pub returns-then-not-is_sound_filled : goal.returns-then-not-is_sound_filled
returns-then-not-is_sound_filled c =
    every_broke _ _ c.loop-k.k c.loop-k-test.true (sym c.is_sound_filled.ensures ∙ c.if-not-is_sound_filled.true)

pub loop-k-preserved : goal.loop-k-preserved
loop-k-preserved c =
    let l = c.loop-k in
    let slot = c.slot_of-slot.ensures.0 ∙ ap slot_of c.row-w.ensures in (
      every_more _ _ l.invariant.0 (sym c.is_sound_filled.ensures ∙ c.if-not-is_sound_filled.false),
      every_more _ _ l.invariant.1 (ap filled_row (sym c.row-w.ensures) ∙ ap not (ne_eqb _ _ c.if-w.false)),
      marked_more l.seen _ l.k l.invariant.2 slot (omega (arith, l.invariant.3, c.slot_of-slot.ensures.1)),
      simp length-set l.invariant.3,
    )
