use mathlib.Core.Path.{◌≡◌}
use lib.ListN.{length}
use Rattle.page.specs.Lent.{with_text}
use Rattle.words.specs.Words.{bytes_of}
use Rattle.words.proofs.append_hex.Given as goal

abbrev pub invariant-loop-left : goal.invariant-loop-left
invariant-loop-left l = with_text l.page (bytes_of l.left) ≡ with_text l.initial.page (bytes_of l.hex)

abbrev pub decreases-loop-left : goal.decreases-loop-left
decreases-loop-left l = length l.left
