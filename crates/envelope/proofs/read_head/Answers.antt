use mathlib.Core.Path.{◌∙◌, sym}
use Rattle.envelope.specs.Envelope.{head_of}
use Rattle.envelope.proofs.OpenedLaws.{head_read}
use Rattle.envelope.proofs.read_head.Goals as goal

-- The head, followed piece by piece.
pub returns-in_err-end-clause-read : goal.returns-in_err-end-clause-read
unfolding head_of
returns-in_err-end-clause-read c =
    rw (
      ← c.text_end.ensures,
      c.in_ok-sender.was,
      ← c.part_then.ensures,
      c.in_ok-receiver.was,
      ← c.part_then-2.ensures,
      c.in_ok-date.was,
      ← c.part_then-3.ensures,
      c.in_ok-time.was,
      ← c.part_then-4.ensures,
      c.in_ok-word.was,
      ← c.part_end.ensures,
      c.in_ok-word_end.was,
      ← c.text_end-2.ensures,
      c.in_err-end.was,
    ) c.from_residual-in_err-end.ensures

pub returns-clause-read : goal.returns-clause-read
unfolding head_of
returns-clause-read c =
    rw (
      ← c.text_end.ensures,
      c.in_ok-sender.was,
      ← c.part_then.ensures,
      c.in_ok-receiver.was,
      ← c.part_then-2.ensures,
      c.in_ok-date.was,
      ← c.part_then-3.ensures,
      c.in_ok-time.was,
      ← c.part_then-4.ensures,
      c.in_ok-word.was,
      ← c.part_end.ensures,
      c.in_ok-word_end.was,
      ← c.text_end-2.ensures,
      c.in_ok-end.was,
    )

pub returns-clause-ordered : goal.returns-clause-ordered
returns-clause-ordered c h e = (head_read _ _ h (sym (returns-clause-read c) ∙ e)).0
