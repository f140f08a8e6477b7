-- Laws of what is written for the records of a body, one after another.
-- Assumes nothing.
use Prim.Native.Nat.{ℕ, suc, ◌+◌, ◌-◌, ◌*◌, ◌≤◌, ◌<◌}
use native.Mathlib.Decide.{dec_lt, ℕ_discrete}
use native.Mathlib.Nat.{zero-add}
use native.Mathlib.Numerals.{add-one}
use native.Mathlib.Omega.{arith}
use mathlib.Core.Bool.{Bool, true, false, ◌&&◌, cond}
use mathlib.Core.List.{List, [], ◌∷◌, ◌++◌, append_assoc}
use mathlib.Core.Path.{◌≡◌, refl, ap, sym, ◌∙◌, subst}
use denote.Ref.{Bor}
use borrow.Author.Tests.{eq-eqb, ne_eqb, not-true}
use lib.Dec.{eqb}
use lib.ListN.{length, take, drop, length-append, length-take}
use Rattle.frame.specs.Every.{every}
use Rattle.frame.proofs.EveryLaws.{every_at}
use Rattle.text.specs.Text.{bytes}
use Rattle.failures.specs.Codes.{is_no_code}
use Rattle.failures.proofs.CodeLaws.{code_known}
use Rattle.std.specs.Prelude.{Some, None}
use Rattle.envelope.specs.Body.{crlf, records_of, record_at, line_end}
use Rattle.envelope.specs.Envelope.{record_count_limit, listed}
use Rattle.envelope.specs.Written.{lines_then}
use Rattle.envelope.proofs.LineLaws.{line_placed, line_bytes, line_there, lines_split, lines_end}
use Rattle.page.specs.Number.{code_text}
use Rattle.page.specs.declared.Page.{Page}
use Rattle.page.specs.Lent.{with_text}
use Rattle.page.proofs.NumberLaws.{code_length}
use Rattle.page.proofs.LentLaws.{with_both, with_nothing}
use Rattle.texts.specs.Texts.{code_count, texts_ok, text_of}
use Rattle.texts.specs.Index.{index_of, entry_in, HandedBy}
use Rattle.texts.proofs.HandedLaws.{text_from, text_short}
use Rattle.error_file.specs.ErrorFile.{code_in, known_code, code_line, error_lines}
use Rattle.error_file.specs.Steps.{piece, pieces_from, Lined}

-- a body as its records stand in it, from one line to the next
pub lined_done : (answers body : List ℕ) (k at : ℕ) → Lined answers body k at → line_end body at ≡ None → length body ≤ at
lined_done answers body k at h e = go (dec_lt at (length body))
  where
    go : Dec (at < length body) → length body ≤ at
    go (yes more) = absurd (line_there body at more h.whole e)
    go (no n) = omega arith

lined_more_there : (answers body : List ℕ) (k at : ℕ) → Lined answers body k at → (next : ℕ) → line_end body at ≡ Some next → at < length body
lined_more_there answers body k at h next e = let p = line_placed body at next h.within e in omega (arith, p.0, p.1)

module _ (answers body : List ℕ) (k at : ℕ) (h : Lined answers body k at) where
  module _ (next : ℕ) (e : line_end body at ≡ Some next) where
    more : at < length body
    more = lined_more_there answers body k at h next e

    pub lined_placed : (at < next) × (next ≤ length body)
    lined_placed = let p = line_placed body at next (omega arith) e in (omega (arith, p.0), p.1)

    count : k + length (listed (records_of (drop at body))) ≡ k + 1 + length (listed (records_of (drop next body)))
    count = let n = ap length (lines_split body at more h.whole next e).1 in omega (arith, n)

    pub lined_more : Lined answers body (k + 1) next
    lined_more =
        let few = h.few in
        record {
          within = lined_placed.1;
          short = h.short;
          whole = (lines_split body at more h.whole next e).0;
          few = omega (arith, few, count);
          known = ap (λ (n : ℕ). every n (known_code answers)) (sym count) ∙ h.known;
        }

    pub lined_few : k + 1 ≤ record_count_limit
    lined_few = let few = lined_more.few in omega (arith, few)

    pub lined_code : code_in answers k < code_count
    lined_code =
        let known = every_at _ (known_code answers) h.known k (omega (arith, count)) in
        let digits = code_known (code_in answers k) (not-true (is_no_code (code_in answers k)) known) in
        omega (arith, digits)

-- where the next line ends, and its number
pub ruleset lining = (lined_placed, lined_few)

-- what is written for a record and for those behind it
module _ (member ours : List ℕ) where
  joined : (r n c g t l : List ℕ) → r ++ (n ++ ((c ++ g ++ t) ++ (n ++ l))) ≡ ((r ++ n) ++ c ++ g ++ t ++ n) ++ l
  joined r n c g t l = simp append_assoc

  pieces_record : (answers : List ℕ) (k : ℕ) (r : List ℕ) (rs : List (List ℕ))
      → lines_then (error_lines member ours answers k (r ∷ rs)) []
      ≡ piece member ours (code_in answers k) (r ++ crlf) ++ lines_then (error_lines member ours answers (suc k) rs) []
  unfolding error_lines piece lines_then
  pieces_record answers k r rs = go (eqb (code_in answers k) 0)
    where
      code : ℕ
      code = code_in answers k

      rest : List (List ℕ)
      rest = error_lines member ours answers (suc k) rs

      go : (none : Bool)
          → lines_then (cond none rest (r ∷ code_line member ours code ∷ rest)) []
          ≡ cond none [] ((r ++ crlf) ++ code_text code ++ bytes "-" ++ text_of member ours code ++ crlf) ++ lines_then rest []
      go true = refl
      go false = joined r crlf (code_text code) (bytes "-") (text_of member ours code) (lines_then rest [])

  module _ (answers body : List ℕ) (k at : ℕ) (h : Lined answers body k at) where
    pub pieces_more : (next : ℕ) → line_end body at ≡ Some next
        → pieces_from member ours answers body k at
        ≡ piece member ours (code_in answers k) (take (next - at) (drop at body)) ++ pieces_from member ours answers body (k + 1) next
    pieces_more next e =
        let split = (lines_split body at (lined_more_there answers body k at h next e) h.whole next e).1 in
        ap (λ (rs : List (List ℕ)). lines_then (error_lines member ours answers k rs) []) split
        ∙ pieces_record answers k (record_at body at) (listed (records_of (drop next body)))
        ∙ rw (line_bytes body at next e, add-one k) refl

    pub pieces_none : length body ≤ at → pieces_from member ours answers body k at ≡ []
    unfolding error_lines lines_then
    pieces_none done = rw (lines_end body at done) refl

  -- one piece
  pub piece_none : (code : ℕ) (line : List ℕ) → code ≡ 0 → piece member ours code line ≡ []
  unfolding piece
  piece_none code line z = rw (eq-eqb code 0 z) refl

  pub piece_some : (code : ℕ) (line : List ℕ) → (code ≡ 0 → ⊥)
      → piece member ours code line ≡ line ++ code_text code ++ bytes "-" ++ text_of member ours code ++ crlf
  unfolding piece
  piece_some code line ne = rw (ne_eqb code 0 ne) refl

  pub piece_length : (code : ℕ) (line : List ℕ) → (code ≡ 0 → ⊥) → length line + 7 + length (text_of member ours code) ≡ length (piece member ours code line)
  piece_length code line ne = sym (ap length (piece_some code line ne) ∙ simp (length-append, code_length) (omega arith))

  pub piece_short : (code : ℕ) (line : List ℕ) → length (piece member ours code line) ≤ length line + 83
  piece_short code line = go (ℕ_discrete code 0)
    where
      go : Dec (code ≡ 0) → length (piece member ours code line) ≤ length line + 83
      go (yes z) = rw (piece_none code line z) (omega arith)
      go (no ne) = omega (arith, piece_length code line ne, text_short member ours code)

-- the text that was handed out by the index of two lists in order is the one that is written
pub text_handed : (member ours r : Bor (List ℕ)) (rows : List ℕ) (code : ℕ) → texts_ok member.now && texts_ok ours.now ≡ true
    → rows ≡ index_of member.now ours.now → code < code_count → HandedBy (entry_in rows code) member ours r → r.now ≡ text_of member.now ours.now code
text_handed member ours r rows code ok i h t =
    (text_from member ours r code ok h (subst (λ (x : List ℕ). HandedBy (entry_in x code) member ours r) i t)).bytes

-- What holds as the records are taken one after another, the next at a place, number k.
module _ (member ours answers body : List ℕ) where
  -- as their pieces are summed up
  pub record Summed (size at k : ℕ) : Type 0 where
    pub lined : Lined answers body k at
    pub sum : size + length (pieces_from member ours answers body k at) ≡ length (pieces_from member ours answers body 0 0)
    pub small : size ≤ at + 83 * k

  pub summed_start : Lined answers body 0 0 → Summed 0 0 0
  summed_start h = record { lined = h; sum = zero-add _; small = omega arith }

  module _ (size at k : ℕ) (h : Summed size at k) (next n : ℕ) (e : line_end body at ≡ Some next)
      (f : n ≡ length (piece member ours (code_in answers k) (take (next - at) (drop at body)))) where
    line_length : length (take (next - at) (drop at body)) ≤ next - at
    line_length = rw length-take (omega arith)

    pub summed_more : Summed (size + n) next (k + 1)
    summed_more =
        let split = ap length (pieces_more member ours answers body k at h.lined next e)
        ∙ length-append (piece member ours (code_in answers k) (take (next - at) (drop at body))) _ in
        let short = piece_short member ours (code_in answers k) (take (next - at) (drop at body)) in
        let placed = lined_placed answers body k at h.lined next e in
        record {
          lined = lined_more answers body k at h.lined next e;
          sum = omega (arith, h.sum, split, f);
          small = omega (arith, h.small, short, f, line_length, placed);
        }

  pub summed_done : (size at k : ℕ) → Summed size at k → line_end body at ≡ None
      → (size ≡ length (pieces_from member ours answers body 0 0)) × (size ≤ 117760)
  summed_done size at k h e =
      let done = lined_done answers body k at h.lined e in
      let none = ap length (pieces_none member ours answers body k at h.lined done) in
      (omega (arith, none, h.sum), omega (arith, h.small, h.lined.within, h.lined.short, h.lined.few))

  -- as their pieces are written
  pub record Writing (old : Page) (page : Page) (at k : ℕ) : Type 0 where
    pub lined : Lined answers body k at
    pub same : with_text page (pieces_from member ours answers body k at) ≡ with_text old (pieces_from member ours answers body 0 0)

  pub writing_start : (page : Page) → Lined answers body 0 0 → Writing page page 0 0
  writing_start page h = record { lined = h; same = refl }

  module _ (old : Page) (page : Page) (at k : ℕ) (h : Writing old page at k) where
    pub writing_more : (next : ℕ) {later : Page} → line_end body at ≡ Some next
        → later ≡ with_text page (piece member ours (code_in answers k) (take (next - at) (drop at body))) → Writing old later next (k + 1)
    writing_more next {later} e f =
        let p = piece member ours (code_in answers k) (take (next - at) (drop at body)) in
        record {
          lined = lined_more answers body k at h.lined next e;
          same =
              ap (λ (q : Page). with_text q (pieces_from member ours answers body (k + 1) next)) f
              ∙ with_both page p (pieces_from member ours answers body (k + 1) next)
              ∙ ap (with_text page) (sym (pieces_more member ours answers body k at h.lined next e))
              ∙ h.same;
        }

    pub writing_done : line_end body at ≡ None → page ≡ with_text old (pieces_from member ours answers body 0 0)
    writing_done e =
        let done = lined_done answers body k at h.lined e in
        sym (with_nothing page) ∙ ap (with_text page) (sym (pieces_none member ours answers body k at h.lined done)) ∙ h.same
