-- An envelope that is written piece by piece: what stands before its records, and what stands behind them.
-- Assumes nothing.
use Rattle.std.specs.Prelude.{ℕ, List, ◌++◌}
use Rattle.text.specs.Text.{bytes}
use Rattle.envelope.specs.Body.{crlf}

-- UNB+UNOA:1+Sender+Receiver+YYYYMMDD:HHMM+Word, the text of the class, and the CR LF that begins the body
unfoldable pub head_text : List ℕ → List ℕ → List ℕ → List ℕ → List ℕ → List ℕ → List ℕ
head_text sender receiver date time word class =
    bytes "UNB+UNOA:1+" ++ (sender ++ bytes "+") ++ (receiver ++ bytes "+") ++ (date ++ bytes ":") ++ (time ++ bytes "+") ++ word ++ (class ++ crlf)

-- 'UNT+3+BWA'UNZ+1+Word'
unfoldable pub tail_text : List ℕ → List ℕ
tail_text word = bytes "'UNT+3+BWA'UNZ+1+" ++ (word ++ bytes "'")
