-- The room that lines take: a page of 20,505 bytes holds those of a file call with 1,024 records, one of 68 bytes each line of a record that is
-- judged without booking, whatever its number; none of them is cut.
-- Assumes nothing.
use Prim.Native.Nat.{ℕ, zero, suc, ◌*◌, ◌≤◌, ◌<◌}
use native.Mathlib.Nat.{zero-add}
use native.Mathlib.Omega.{arith}
use mathlib.Core.Bool.{Bool, true, false, cond}
use mathlib.Core.List.{List, [], ◌∷◌, ◌++◌}
use mathlib.Core.Path.{◌≡◌, ap, ◌∙◌}
use lib.Dec.{eqb}
use lib.ListN.{length, drop, length-append}
use Rattle.frame.specs.Every.{how_many}
use Rattle.frame.proofs.EveryLaws.{many_most}
use Rattle.failures.specs.Failures.{failure_count}
use Rattle.answer.specs.declared.Answer.{Answer}
use Rattle.answer.specs.Answer.{answer_size, answer_at}
use Rattle.answer.proofs.SizeLaws.{are_bytes, answer_small}
use Rattle.page.specs.Page.{page, appended}
use Rattle.page.specs.Number.{number_text}
use Rattle.page.proofs.PageLaws.{appended_room}
use Rattle.page.proofs.NumberLaws.{number_most, number_short, code_length}
use Rattle.results.specs.Results.{row_text, line_text, lines_text, is_booked, booked_count, accepted_text}
use Rattle.results.specs.Results.{refused_line_text, would_book_text}

-- a row takes four bytes, a line twenty
row_short : (row : ℕ) → row < 256 → length (row_text row) ≤ 4
unfolding row_text
row_short row h = go (eqb row 255)
  where
    go : (b : Bool) → length (cond b (45 ∷ []) (number_text row)) ≤ 4
    go true = omega arith
    go false = number_short row (omega arith)

line_short : (number : ℕ) (a : Answer) → number ≤ 1024 → failure_count a.failed ≤ 64 → a.row < 256 → length (line_text number a) ≤ 20
unfolding line_text
line_short number a h f r =
    let one = number_short number (omega arith) in
    let two = number_short (failure_count a.failed) (omega arith) in
    let three = row_short a.row r in
    let four = code_length a.code in
    simp length-append (omega (arith, one, two, three, four))

lines_short : (n : ℕ) (answers : List ℕ) → n ≤ 1024 → are_bytes answers → length (lines_text n answers) ≤ n * 20
unfolding lines_text
lines_short zero answers h f = omega arith
lines_short (suc n) answers h f =
    let small = answer_small answers (n * answer_size) f in
    let line = line_short (suc n) (answer_at (n * answer_size) answers) h small.0 small.1 in
    let before = lines_short n answers (omega arith) f in
    rw length-append (omega arith)

pub accepted_short : (n : ℕ) (answers : List ℕ) → n ≤ 1024 → are_bytes answers → length (accepted_text n answers) ≤ 20505
unfolding accepted_text booked_count
accepted_short n answers h f =
    let one = number_short n (omega arith) in
    let two = number_short (how_many n (is_booked answers)) (omega (arith, many_most n (is_booked answers))) in
    let lines = lines_short n answers h f in
    simp length-append (omega (arith, one, two, lines))

-- so all of the text stands on such a page, from its start on
pub accepted_stands : (n : ℕ) (answers s : List ℕ) → n ≤ 1024 → are_bytes answers → 20505 ≤ length s
    → appended (page s 0) (accepted_text n answers)
    ≡ page (accepted_text n answers ++ drop (length (accepted_text n answers)) s) (length (accepted_text n answers))
accepted_stands n answers s h f room =
    let t : List ℕ = accepted_text n answers in
    appended_room s 0 t (omega (arith, accepted_short n answers h f))
    ∙ ap (λ (m : ℕ). page (t ++ drop m s) m) (zero-add (length t))

-- the lines of records that are judged without booking: 68 bytes hold a record's, 50 a refused one's, 32 the last
row_most : (row : ℕ) → length (row_text row) ≤ 20
unfolding row_text
row_most row = go (eqb row 255)
  where
    go : (b : Bool) → length (cond b (45 ∷ []) (number_text row)) ≤ 20
    go true = omega arith
    go false = number_most row

pub line_most : (number : ℕ) (a : Answer) → length (line_text number a) ≤ 68
unfolding line_text
line_most number a =
    let one = number_most number in
    let two = number_most (failure_count a.failed) in
    let three = row_most a.row in
    let four = code_length a.code in
    simp length-append (omega (arith, one, two, three, four))

pub refused_line_most : (number refusal : ℕ) → length (refused_line_text number refusal) ≤ 50
unfolding refused_line_text
refused_line_most number refusal = simp length-append (omega (arith, number_most number, number_most refusal))

pub would_book_most : (count : ℕ) → length (would_book_text count) ≤ 32
unfolding would_book_text
would_book_most count = simp length-append (omega (arith, number_most count))
