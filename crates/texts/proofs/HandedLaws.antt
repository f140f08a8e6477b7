-- Laws of a text that is handed out: where it lies in the list that it comes from, that it is the text of the code, its bytes and its length.
-- Assumes nothing.
use Prim.Native.Nat.{ℕ, ◌+◌, ◌-◌, ◌*◌, ◌≤◌, ◌<◌}
use mathlib.Core.Bool.{Bool, true, false, ◌&&◌, cond}
use mathlib.Core.List.{List, []}
use mathlib.Core.Path.{◌≡◌, refl, ap, ◌∙◌}
use native.Mathlib.Omega.{arith}
use borrow.Author.Tests.{lt-ltb, le-ltb, ltb-true, leb-true}
use denote.Ref.{Bor}
use lib.Dec.{leb, ltb}
use lib.ListN.{length, take, drop, length-take, length-drop}
use Rattle.frame.specs.Parts.{part}
use Rattle.frame.proofs.BoolLaws.{and_left, and_right}
use Rattle.text.specs.Class.{is_text_byte}
use Rattle.text.specs.Bytes.{all}
use Rattle.text.specs.Part.{Lies}
use Rattle.text.proofs.PartLaws.{at_start, at_byte}
use Rattle.texts.specs.Texts.{text_row_size, text_code_size, code_count, text_count, text_row, texts_ok, row_number, holds_text, trimmed}
use Rattle.texts.specs.Texts.{has_row, text_at, text_start, text_of, HandedOut}
use Rattle.texts.specs.Index.{blank_entry, member_base, entry_of, index_of, entry_in, HandedBy}
use Rattle.texts.proofs.TextLaws.{all_front, row_text, list_rows, list_count, row_most, start_none, start_there}
use Rattle.texts.proofs.IndexLaws.{index_entry}

-- where the text of a row begins, that is not there and that is
module _ (lent : Bor (List ℕ)) (n : ℕ) where
  pub at_none : has_row lent.now n ≡ false → lent.ref_ptr ≡ (lent.ref_ptr.0, lent.ref_ptr.1 + text_start lent.now n)
  at_none e = at_start lent ∙ ap (λ (k : ℕ). (lent.ref_ptr.0, lent.ref_ptr.1 + k)) (start_none lent.now n e)

  pub at_text : 1 ≤ n → n ≤ text_count lent.now
      → ◌≡◌ {A = ℕ × ℕ} (lent.ref_ptr.0, n * text_row_size - text_row_size + text_code_size + lent.ref_ptr.1) (lent.ref_ptr.0, lent.ref_ptr.1 + text_start lent.now n)
  at_text low high = at_byte lent _ ∙ ap (λ (k : ℕ). (lent.ref_ptr.0, lent.ref_ptr.1 + k)) (start_there lent.now n low high)

-- the text that an entry speaks of: of a row of the member's list where it is above its base, else of ours
module _ (member ours : Bor (List ℕ)) {entry n : ℕ} {r : Bor (List ℕ)} (e : n ≡ entry) where
  pub by_member : member_base < n → Lies member (text_start member.now (n - member_base)) (text_at member.now (n - member_base)) r
      → HandedBy entry member ours r
  by_member h l = rw (← e, lt-ltb member_base n h) l

  pub by_ours : n ≤ member_base → Lies ours (text_start ours.now (n - blank_entry)) (text_at ours.now (n - blank_entry)) r → HandedBy entry member ours r
  by_ours h l = rw (← e, le-ltb member_base n h) l

  pub by_none : n ≤ blank_entry → Lies ours (text_start ours.now 0) (text_at ours.now 0) r → HandedBy entry member ours r
  by_none h l = let none : n - blank_entry ≡ 0 = omega arith in by_ours (omega arith) (rw none l)

-- the number of a row of a list that is all right is at most that of the codes, so that an entry above the member's base is the member's
pub row_coded : (t : List ℕ) (code : ℕ) → texts_ok t ≡ true → row_number t code ≤ code_count
row_coded t code ok = omega (arith, row_most t code (text_count t), list_count t ok)

-- what the entry of a code hands out is the text of the code
module _ (member ours r : Bor (List ℕ)) (code : ℕ) (ok : texts_ok member.now && texts_ok ours.now ≡ true) where
  entry_from : HandedBy (entry_of member.now ours.now code) member ours r → HandedOut member ours code r
  unfolding text_of
  entry_from = go (holds_text member.now code) refl
    where
      go : (b : Bool) → holds_text member.now code ≡ b → HandedBy (entry_of member.now ours.now code) member ours r → HandedOut member ours code r
      go true e h =
          let row : 0 < row_number member.now code = ltb-true 0 _ e in
          let over : ltb member_base (member_base + row_number member.now code) ≡ true
          = lt-ltb member_base (member_base + row_number member.now code) (omega arith) in
          let back : member_base + row_number member.now code - member_base ≡ row_number member.now code = omega arith in
          rw e (rw (e, over, back) at h)
      go false e h =
          let coded = row_coded ours.now code (and_right (texts_ok member.now) _ ok) in
          let under : ltb member_base (blank_entry + row_number ours.now code) ≡ false
          = le-ltb member_base (blank_entry + row_number ours.now code) (omega arith) in
          let back : blank_entry + row_number ours.now code - blank_entry ≡ row_number ours.now code = omega arith in
          rw e (rw (e, under, back) at h)

  pub text_from : code < code_count → HandedBy (entry_in (index_of member.now ours.now) code) member ours r → HandedOut member ours code r
  text_from h g = entry_from (rw (index_entry member.now ours.now code ok h) at g)

-- the bytes of a text, and how many they are
text_at_bytes : (t : List ℕ) (n : ℕ) → texts_ok t ≡ true → all is_text_byte (text_at t n) ≡ true
unfolding text_at all
text_at_bytes t n ok = go (has_row t n) refl
  where
    w : List ℕ
    w = drop text_code_size (text_row t (n - 1))

    go : (b : Bool) → has_row t n ≡ b → all is_text_byte (cond b (take (trimmed w) w) []) ≡ true
    go true e =
        let low : 1 ≤ n = leb-true 1 n (and_left (leb 1 n) _ e) in
        let high : n ≤ text_count t = leb-true n (text_count t) (and_right (leb 1 n) _ e) in
        all_front is_text_byte (trimmed w) w (row_text t (n - 1) (list_rows t ok (n - 1) (omega arith)))
    go false e = refl

text_at_short : (t : List ℕ) (n : ℕ) → length (text_at t n) ≤ 76
unfolding text_at part
text_at_short t n = go (has_row t n)
  where
    w : List ℕ
    w = drop text_code_size (text_row t (n - 1))

    go : (b : Bool) → length (cond b (take (trimmed w) w) []) ≤ 76
    go true = simp (length-take, length-drop) (omega arith)
    go false = omega arith

module _ (member ours : List ℕ) (code : ℕ) where
  pub text_bytes : texts_ok member && texts_ok ours ≡ true → all is_text_byte (text_of member ours code) ≡ true
  unfolding text_of
  text_bytes ok = go (holds_text member code)
    where
      go : (b : Bool) → all is_text_byte (text_at (cond b member ours) (row_number (cond b member ours) code)) ≡ true
      go true = text_at_bytes member (row_number member code) (and_left (texts_ok member) _ ok)
      go false = text_at_bytes ours (row_number ours code) (and_right (texts_ok member) _ ok)

  pub text_short : length (text_of member ours code) ≤ 76
  unfolding text_of
  text_short = text_at_short (cond (holds_text member code) member ours) _
