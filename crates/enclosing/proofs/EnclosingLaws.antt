-- An envelope that is written piece by piece is the one that is read back, and how long it is.
-- Assumes nothing.
use Prim.Native.Nat.{ℕ, ◌+◌}
use native.Mathlib.Omega.{arith}
use mathlib.Core.List.{List, [], ◌∷◌, ◌++◌, append_assoc}
use mathlib.Core.Path.{◌≡◌, refl, ap, sym, ◌∙◌}
use lib.ListN.{length, length-append}
use Rattle.text.specs.Text.{bytes}
use Rattle.envelope.specs.Body.{crlf}
use Rattle.envelope.specs.Written.{Envelope, lines_then, written}
use Rattle.enclosing.specs.Enclosing.{head_text, tail_text}

-- the lines of records, whatever follows them
pub lines_then_lem : (rs : List (List ℕ)) (rest : List ℕ) → lines_then rs rest ≡ lines_then rs [] ++ rest
unfolding lines_then
lines_then_lem [] rest = refl
lines_then_lem (r ∷ rs) rest =
    ap (λ (t : List ℕ). r ++ (crlf ++ t)) (lines_then_lem rs rest) ∙ simp append_assoc

-- the pieces of a head, lines and the pieces of a tail, one behind another
regrouped : (u s p r d c t w k n l z m : List ℕ)
    → (u ++ (s ++ p) ++ (r ++ p) ++ (d ++ c) ++ (t ++ p) ++ w ++ (k ++ n)) ++ l ++ (z ++ (w ++ m))
    ≡ u ++ (s ++ (p ++ (r ++ (p ++ (d ++ (c ++ (t ++ (p ++ (w ++ (k ++ (n ++ (l ++ (z ++ (w ++ m))))))))))))))
regrouped u s p r d c t w k n l z m = simp append_assoc

pub written_pieces : (e : Envelope)
    → head_text e.sender e.receiver e.date e.time e.word e.class ++ lines_then e.records [] ++ tail_text e.word ≡ written e
unfolding written head_text tail_text
written_pieces e =
    regrouped (bytes "UNB+UNOA:1+") e.sender (bytes "+") e.receiver e.date (bytes ":") e.time e.word e.class crlf
    (lines_then e.records []) (bytes "'UNT+3+BWA'UNZ+1+") (bytes "'")
    ∙ ap (λ (t : List ℕ). bytes "UNB+UNOA:1+" ++ (e.sender ++ (bytes "+" ++ (e.receiver ++ (bytes "+" ++ (e.date ++ (bytes ":"
    ++ (e.time ++ (bytes "+" ++ (e.word ++ (e.class ++ (crlf ++ t))))))))))))
    (sym (lines_then_lem e.records (bytes "'UNT+3+BWA'UNZ+1+" ++ (e.word ++ bytes "'"))))

pub written_length : (e : Envelope)
    → length (written e)
    ≡ 35 + length e.sender + length e.receiver + length e.date + length e.time + length e.word + length e.word + length e.class
    + length (lines_then e.records [])
unfolding head_text tail_text
written_length e = ap length (sym (written_pieces e)) ∙ simp length-append (omega arith)
