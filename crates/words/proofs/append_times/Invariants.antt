use mathlib.Core.Path.{◌≡◌}
use Rattle.page.specs.Lent.{with_text}
use Rattle.words.specs.Words.{piece_bytes, repeated}
use Rattle.words.proofs.append_times.Given as goal

abbrev pub invariant-loop : goal.invariant-loop
invariant-loop l = l.page ≡ with_text l.initial.page (repeated l.counter (piece_bytes l.piece))
