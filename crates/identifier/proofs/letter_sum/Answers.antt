use native.Mathlib.Omega.{arith}
use Rattle.identifier.proofs.IsinLaws.{turned_by, sum_start, sum_more, sum_end}
use Rattle.identifier.proofs.letter_sum.Goals as goal

pub loop-b-init : goal.loop-b-init
loop-b-init c = (omega arith, sum_start c.args.s.now c.into_iter-b-iterator.result.iter.rest.now cc)

pub loop-b-preserved-then-belongs : goal.loop-b-preserved-then-belongs
loop-b-preserved-then-belongs c =
    let added = rw c.value_of.ensures.0 at c.weight.ensures.0 in (
      omega arith,
      sum_more _ _ _ _ _ _ _ c.loop-b.invariant.1 c.in-Some.ensures.steps added c.last_digits-total.ensures (turned_by _ _ c.belongs.ensures c.if-belongs.true),
    )

pub loop-b-preserved : goal.loop-b-preserved
loop-b-preserved c =
    let added = c.letter_weight.ensures.0 in (
      omega arith,
      sum_more _ _ _ _ _ _ _ c.loop-b.invariant.1 c.in-Some.ensures.steps added c.last_digits-total-else-belongs.ensures
          (turned_by _ _ c.belongs.ensures c.if-belongs.false),
    )

pub returns : goal.returns
returns c = sum_end _ _ _ _ c.loop-b.invariant.1 c.in-None.ensures.steps.0
