-- Laws of the lines that are printed.
-- Assumes nothing.
use Prim.Native.Nat.{ℕ, suc, ◌+◌, ◌*◌}
use native.Mathlib.Numerals.{add-one}
use mathlib.Core.List.{List}
use mathlib.Core.Path.{◌≡◌, ◌∙◌}
use Rattle.answer.specs.declared.Answer.{Answer}
use Rattle.answer.specs.Answer.{answer_size, answer_at}
use Rattle.frame.proofs.EveryLaws.{many_none, many_more, many_same, many_most}
use Rattle.page.specs.declared.Page.{Page}
use Rattle.page.specs.Lent.{with_text}
use Rattle.page.proofs.LentLaws.{with_both}
use Rattle.results.specs.Results.{line_text, lines_text}

-- what a loop knows that writes the lines of records, after one line more
pub lines_more : (p : Page) (answers : List ℕ) (k : ℕ) {q r : Page} {a : Answer} → q ≡ with_text p (lines_text k answers)
    → a ≡ answer_at (k * answer_size) answers → r ≡ with_text q (line_text (k + 1) a) → r ≡ with_text p (lines_text (k + 1) answers)
unfolding lines_text
lines_more p answers k e g f =
    f ∙ rw (e, g, add-one k) (with_both p (lines_text k answers) (line_text (suc k) (answer_at (k * answer_size) answers)))

-- how many are booked, record by record
pub ruleset counting_laws = (many_none, many_more, many_same, many_most)
