use Prim.Native.Nat.{◌+◌}
use native.Mathlib.Omega.{arith}
use mathlib.Core.Path.{◌≡◌, sym, ◌∙◌}
use lib.ListN.{length-take}
use Rattle.std.specs.Prelude.{Some}
use Rattle.envelope.specs.Body.{line_end}
use Rattle.error_file.proofs.PieceLaws.{Summed, summed_more, summed_done, lined_placed, lined_code}
use Rattle.error_file.proofs.Texts.pieces_size.Goals as goal

pub piece_size-size-requires : goal.piece_size-size-requires
piece_size-size-requires c =
    let found : line_end c.args.body.now c.loop-next.at ≡ Some c.in-Some.next = sym c.line_end.ensures ∙ c.in-Some.is in
    let lined = c.loop-next.invariant.lined in
    let placed = lined_placed _ _ _ _ lined _ found in
    (rw c.code_in.ensures (lined_code _ _ _ _ lined _ found), rw length-take (omega (arith, placed, lined.short)))

pub loop-next-preserved : goal.loop-next-preserved
loop-next-preserved c =
    summed_more _ _ _ _ _ _ _ c.loop-next.invariant _ _ (sym c.line_end.ensures ∙ c.in-Some.is) (rw (← c.code_in.ensures) c.piece_size-size.ensures)

pub overflow_add-size : goal.overflow_add-size
overflow_add-size c =
    let a = c.args in
    let l = c.loop-next in
    let more : Summed a.self.now.index.lists.member.now a.self.now.index.lists.ours.now a.answers.now a.body.now (l.size + c.piece_size-size.result) c.in-Some.next (l.k + 1)
    = summed_more _ _ _ _ _ _ _ l.invariant _ _ (sym c.line_end.ensures ∙ c.in-Some.is) (rw (← c.code_in.ensures) c.piece_size-size.ensures) in
    omega (arith, more.small, more.lined.within, more.lined.short, more.lined.few)

pub returns : goal.returns
returns c = summed_done _ _ _ _ _ _ _ c.loop-next.invariant (sym c.line_end.ensures ∙ c.in_default.is)
