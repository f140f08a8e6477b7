use mathlib.Core.Path.{sym, ◌∙◌}
use Rattle.error_file.proofs.PieceLaws.{writing_more, writing_done, lined_code}
use Rattle.error_file.proofs.Texts.append_pieces.Goals as goal

pub append_piece-requires : goal.append_piece-requires
append_piece-requires c =
    rw c.code_in.ensures (lined_code _ _ _ _ c.loop-next.invariant.lined _ (sym c.line_end.ensures ∙ c.in-Some.is))

pub loop-next-preserved : goal.loop-next-preserved
loop-next-preserved c =
    writing_more _ _ _ _ _ _ _ _ c.loop-next.invariant _ (sym c.line_end.ensures ∙ c.in-Some.is) (rw (← c.code_in.ensures) c.append_piece.ensures)

pub returns : goal.returns
returns c = writing_done _ _ _ _ _ _ _ _ c.loop-next.invariant (sym c.line_end.ensures ∙ c.in_default.is)
