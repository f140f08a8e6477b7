use mathlib.Core.Path.{ap, refl, sym, ◌∙◌}
use Rattle.page.specs.Lent.{with_text}
use Rattle.page.proofs.LentLaws.{with_both, with_nothing}
use Rattle.error_file.proofs.PieceLaws.{piece_none, piece_some, text_handed}
use Rattle.error_file.proofs.Texts.append_piece.Goals as goal

pub returns-then-code-eq0 : goal.returns-then-code-eq0
returns-then-code-eq0 c =
    let a = c.args in
    sym (with_nothing a.page.now) ∙ ap (with_text a.page.now) (sym (piece_none _ _ _ _ c.if-code-eq0.true))

-- the pieces of a line, from the last to the first
pub returns : goal.returns
returns c =
    let s = c.args.self.now in
    rw (piece_some _ _ _ _ c.if-code-eq0.false)
    (rw (c.append-4.ensures, c.append-3.ensures, text_handed _ _ _ _ _ s.in_order s.indexed c.requires c.text_of-text.ensures)
    (rw (c.append-2.ensures, c.append_code.ensures, c.append.ensures) (simp with_both refl)))
