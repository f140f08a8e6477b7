use mathlib.Core.Path.{◌≡◌}
use Rattle.page.specs.Lent.{with_text}
use Rattle.results.specs.Results.{lines_text}
use Rattle.results.proofs.append_lines.Given as goal

abbrev pub invariant-loop-k : goal.invariant-loop-k
invariant-loop-k l = l.page ≡ with_text l.initial.page (lines_text l.k l.answers)
