-- What the private functions of the writer ask and promise: the records of a body, one after another, with their lines.
-- Assumes nothing.
use Rattle.std.specs.Prelude.{ℕ, ◌+◌, ◌≤◌, Bool, true, ◌||◌, cond, List, [], ◌++◌, ◌≡◌, eqb, length, drop}
use Rattle.frame.specs.Every.{every}
use Rattle.text.specs.Text.{bytes}
use Rattle.envelope.specs.Body.{records, crlf, records_of}
use Rattle.envelope.specs.Envelope.{file_limit, record_count_limit, listed}
use Rattle.envelope.specs.Written.{lines_then}
use Rattle.page.specs.Number.{code_text}
use Rattle.texts.specs.Texts.{text_of}
use Rattle.texts.specs.Index.{names_row}
use Rattle.error_file.specs.ErrorFile.{code_in, known_code, error_lines}

-- the answer to record k has a code that needs no text, or has one by the index
abbrev pub is_named : List ℕ → List ℕ → ℕ → Bool
is_named rows answers k = eqb (code_in answers k) 0 || names_row rows (code_in answers k)

module _ (member ours : List ℕ) where
  -- what is written for a line of the report: nothing where its code is 0, else the line, and the line of its code
  unfoldable pub piece : ℕ → List ℕ → List ℕ
  piece code line = cond (eqb code 0) [] (line ++ code_text code ++ bytes "-" ++ text_of member ours code ++ crlf)

  -- what is written for the records of a body from a place on, the first of them number k
  abbrev pub pieces_from : List ℕ → List ℕ → ℕ → ℕ → List ℕ
  pieces_from answers body k at = lines_then (error_lines member ours answers k (listed (records_of (drop at body)))) []

-- the body is of the layout from a place on, its first record number k of at most 1,024, and no answer to one has a code that is none
pub record Lined (answers body : List ℕ) (k at : ℕ) : Type 0 where
  pub within : at ≤ length body
  pub short : length body ≤ file_limit
  pub whole : records_of (drop at body) ≡ records (listed (records_of (drop at body)))
  pub few : k + length (listed (records_of (drop at body))) ≤ record_count_limit
  pub known : every (k + length (listed (records_of (drop at body)))) (known_code answers) ≡ true
