use Prim.Native.Nat.{ℕ, ◌+◌}
use mathlib.Core.List.{List}
use mathlib.Core.Path.{ap, sym, ◌∙◌}
use lib.ListN.{length}
use Rattle.error_file.proofs.PieceLaws.{piece_none, piece_length, text_handed}
use Rattle.error_file.proofs.Texts.piece_size.Goals as goal

pub returns-then-code-eq0 : goal.returns-then-code-eq0
returns-then-code-eq0 c = sym (ap length (piece_none _ _ _ _ c.if-code-eq0.true))

pub returns : goal.returns
returns c =
    let s = c.args.self.now in
    let handed = text_handed _ _ _ _ _ s.in_order s.indexed c.requires.0 c.text_of.ensures in
    ap (λ (t : List ℕ). length c.args.line.now + 7 + length t) handed ∙ piece_length _ _ _ _ c.if-code-eq0.false
