use native.Mathlib.Omega.{arith}
use mathlib.Core.Path.{ap, ◌∙◌, sym}
use Rattle.std.specs.Result.{result_ok}
use Rattle.envelope.proofs.OpenedLaws.{body_bounded, tail_placed}
use Rattle.envelope.proofs.open_body.Goals as goal

pub slice_bounds-ne-count-2 : goal.slice_bounds-ne-count-2
slice_bounds-ne-count-2 c =
    let bound = body_bounded _ _ _ (sym c.read_body.ensures ∙ c.ok_or.ensures.ok_part ∙ ap result_ok c.in_ok-b.was) in
    omega (arith, tail_placed _ _ _ (omega (arith, bound.within)) (sym c.read_tail.ensures ∙ c.ok_or-2.ensures.ok_part ∙ ap result_ok c.in_ok-last.was))

pub slice_bounds-ne-start-2 : goal.slice_bounds-ne-start-2
slice_bounds-ne-start-2 c = slice_bounds-ne-count-2 c
