-- Places 0 to 6 of document 01, the sender check: fields 1 and 2, the reporters table and the sender.
-- Assumes nothing.
use Rattle.std.specs.Prelude.{ℕ, Bool, true, false, ◌&&◌, not, cond, List, [], ◌∷◌, ltb, Result, Ok, Err}
use Rattle.failures.specs.declared.Failures.{Failures}
use Rattle.failures.specs.Failures.{added_from, no_failure, is_empty}
use Rattle.fields.specs.Forms.{blank, filled, is, one_of}
use Rattle.tables.specs.Reporters.{reporter_count, row_by_code, row_by_address, has_mailbox}

-- the row found by F1 and F2; the count of rows where none is
unfoldable pub reporter_row : List ℕ → List ℕ → List ℕ → ℕ
reporter_row reporters f1 f2 =
    cond (is f1 "B") (row_by_code reporters f2) (cond (is f1 "S") (row_by_address reporters f2) (reporter_count reporters))

abbrev pub is_found : List ℕ → ℕ → Bool
is_found reporters row = ltb row (reporter_count reporters)

-- whether each of places 1 to 6 fails, of F1, F2 and the row that they find
unfoldable pub reporter_tests : List ℕ → List ℕ → List ℕ → List ℕ → ℕ → List Bool
reporter_tests reporters sender f1 f2 row =
    -- 1 0010 F1 blank
    blank f1
    -- 2 0011 F1 filled, not B or S
    ∷ (filled f1 && not (one_of f1 "BS"))
    -- 3 0020 F2 blank
    ∷ blank f2
    -- 4 0021 F1=B, F2 filled, no such bank code in the table
    ∷ (is f1 "B" && filled f2 && not (is_found reporters row))
    -- 5 0022 F1=S, F2 filled, no such SWIFT address there
    ∷ (is f1 "S" && filled f2 && not (is_found reporters row))
    -- 6 0024 a row is found by F1 and F2, but its mailbox is not the sender
    ∷ (is_found reporters row && not (has_mailbox reporters sender row))
    ∷ []

-- places 0 to 6, of whether the record has 38 semicolons and of F1 and F2. If 0 fails, 1 to 6 are not judged
unfoldable pub sender_tests : List ℕ → List ℕ → Bool → List ℕ → List ℕ → List Bool
sender_tests reporters sender whole f1 f2 =
    -- 0 9001 not 38 semicolons
    cond whole (false ∷ reporter_tests reporters sender f1 f2 (reporter_row reporters f1 f2)) (true ∷ [])

-- The sender check: a record passes it for the bank of a row when none of places 0 to 6 fails and the row is found.
unfoldable pub sender_check : List ℕ → List ℕ → Bool → List ℕ → List ℕ → Result ℕ Failures
sender_check reporters sender whole f1 f2 =
    let failed = added_from no_failure 0 (sender_tests reporters sender whole f1 f2) in
    cond (is_empty failed) (Ok (reporter_row reporters f1 f2)) (Err failed)
