-- Laws of the answer record: its stores fill it, it is written and read at a place, and what was written is read back.
-- Assumes nothing.
use Prim.Native.Nat.{ℕ, ◌+◌, ◌-◌, ◌*◌, ◌/◌, ◌^◌, ◌≤◌, ◌<◌}
use native.Mathlib.Nat.{add-zero, add-sub_cancel_left}
use native.Mathlib.Omega.{arith}
use mathlib.Core.Bool.{Bool, true, false, cond}
use mathlib.Core.List.{List, [], ◌∷◌, ◌++◌, append-nil, append_assoc}
use mathlib.Core.Path.{◌≡◌, refl, ap, sym, ◌∙◌}
use borrow.Author.Tests.{le-leb, lt-leb, leb-true}
use lib.Dec.{leb}
use lib.ListN.{length, get_or, take, drop, set, length-append, length-take, length-drop, drop_of_length-le}
use lib.Seq.{sets, sets-eq, get_or-drop, take_at, drop_at, drop-drop, length-take-le}
use Rattle.frame.proofs.StoreLaws.{extend}
use Rattle.text.specs.Number.{low_bytes, number_at, number_put}
use Rattle.text.proofs.NumberLaws.{low_length, little_low}
use Rattle.answer.specs.declared.Answer.{Answer}
use Rattle.answer.specs.Answer.{answer_size, answer_bytes, answer_put, zero_answer, answer_at}

pub answer_length : (a : Answer) → length (answer_bytes a) ≡ answer_size
unfolding answer_bytes
answer_length a = simp (length-append, low_length)

-- a number that is put, and bytes that are stored, behind what is done already
put_behind : (k at x : ℕ) (d r : List ℕ) → length d ≡ at → k ≤ length r → number_put k at x (d ++ r) ≡ (d ++ low_bytes k x) ++ drop k r
unfolding number_put
put_behind k at x d r e h =
    let fits : at + k ≤ length (d ++ r) = rw length-append (omega arith) in
    rw (le-leb _ _ fits) (extend d r (low_bytes k x) at k e)

stores_behind : (vs : List ℕ) (at : ℕ) (d r : List ℕ) → length d ≡ at → length vs ≤ length r
    → sets (d ++ r) at vs ≡ (d ++ vs) ++ drop (length vs) r
stores_behind vs at d r e h =
    sets-eq vs (d ++ r) at (rw length-append (omega arith))
    ∙ rw (take_at d r at e, ← drop-drop (length vs) at (d ++ r), drop_at d r at e)

-- the stores that fill the sixteen bytes make the answer's
pub answer_filled : (a : Answer) (w : List ℕ) {b c d e : List ℕ} → length w ≡ answer_size → b ≡ number_put 8 0 a.failed.bits w
    → c ≡ number_put 2 8 a.code b → d ≡ number_put 2 12 a.booked (set (set c 10 a.row) 11 a.status)
    → e ≡ number_put 2 14 a.length d → e ≡ answer_bytes a
unfolding answer_bytes
answer_filled a w {b} {c} {d} {e} sized eb ec ed ee =
    let alone : List ℕ = a.row ∷ a.status ∷ [] in
    let failed : List ℕ = low_bytes 8 a.failed.bits in
    let coded : List ℕ = failed ++ low_bytes 2 a.code in
    let stated : List ℕ = coded ++ alone in
    let booked : List ℕ = stated ++ low_bytes 2 a.booked in
    let from8 : List ℕ = drop 8 w in
    let from10 : List ℕ = drop 2 from8 in
    let from12 : List ℕ = drop 2 from10 in
    let from14 : List ℕ = drop 2 from12 in
    let done8 : b ≡ failed ++ from8 = eb ∙ put_behind 8 0 a.failed.bits [] w refl (omega arith) in
    let done10 : c ≡ coded ++ from10
    = ec ∙ rw done8 (put_behind 2 8 a.code failed from8 (low_length 8 _) (simp length-drop (omega arith))) in
    let done12 : set (set c 10 a.row) 11 a.status ≡ stated ++ from12
    = rw done10 (stores_behind alone 10 coded from10 (simp (length-append, low_length)) (simp length-drop (omega arith))) in
    let done14 : d ≡ booked ++ from14
    = ed ∙ rw done12 (put_behind 2 12 a.booked stated from12 (simp (length-append, low_length)) (simp length-drop (omega arith))) in
    let done16 : e ≡ (booked ++ low_bytes 2 a.length) ++ drop 2 from14
    = ee ∙ rw done14 (put_behind 2 14 a.length booked from14 (simp (length-append, low_length)) (simp length-drop (omega arith))) in
    let over : drop 2 from14 ≡ [] = drop_of_length-le from14 {i = 2} (simp length-drop (omega arith)) in
    done16 ∙ rw (over, append-nil) (simp append_assoc)

-- the cases of writing and reading at a place
pub answer_put_out : (at : ℕ) (a : Answer) (s : List ℕ) → length s < at + answer_size → s ≡ answer_put at a s
unfolding answer_put
answer_put_out at a s h = rw (lt-leb _ _ h)

pub answer_put_in : (at : ℕ) (a : Answer) (s : List ℕ) {ys : List ℕ} → at + answer_size ≤ length s → ys ≡ answer_bytes a
    → take at s ++ (ys ++ drop (at + answer_size - at) (drop at s)) ≡ answer_put at a s
unfolding answer_put
answer_put_in at a s h e = rw (le-leb _ _ h, e, add-sub_cancel_left)

pub answer_in_lem : (at : ℕ) (s : List ℕ) {failed code booked len : ℕ} → at + answer_size ≤ length s → failed ≡ number_at 8 at s
    → code ≡ number_at 2 (at + 8) s → booked ≡ number_at 2 (at + 12) s → len ≡ number_at 2 (at + 14) s
    → record {
      failed = record { bits = failed };
      code = code;
      row = get_or s (at + 10) 0;
      status = get_or s (at + 11) 0;
      booked = booked;
      length = len;
    } ≡ answer_at at s
unfolding answer_at
answer_in_lem at s h ef ec eb el = rw (le-leb _ _ h, ef, ec, eb, el)

-- what a write leaves: the length, and at its place the answer
pub answer_put_length : (at : ℕ) (a : Answer) (s : List ℕ) → length (answer_put at a s) ≡ length s
unfolding answer_put
answer_put_length at a s = go (leb (at + answer_size) (length s)) refl
  where
    go : (t : Bool) → leb (at + answer_size) (length s) ≡ t
        → length (cond t (take at s ++ (answer_bytes a ++ drop answer_size (drop at s))) s) ≡ length s
    go true e = let h : at + answer_size ≤ length s = leb-true _ _ e in simp (length-append, length-take, length-drop, answer_length) (omega arith)
    go false e = refl

-- a number or a byte is read where it stands, and what follows stands behind
number_stands : (n at x : ℕ) (s r : List ℕ) → at + n ≤ length s → x < 256 ^ n → drop at s ≡ low_bytes n x ++ r → number_at n at s ≡ x
unfolding number_at
number_stands n at x s r h b e = rw (le-leb _ _ h, e, take_at (low_bytes n x) r n (low_length n x)) (little_low n x b)

byte_stands : (at x : ℕ) (s r : List ℕ) → drop at s ≡ x ∷ r → get_or s at 0 ≡ x
byte_stands at x s r e = sym (rw add-zero at (get_or-drop at s 0 0)) ∙ ap (λ (l : List ℕ). get_or l 0 0) e

stands_behind : (d : List ℕ) (k at next : ℕ) (s r : List ℕ) → length d ≡ k → at + k ≡ next → drop at s ≡ d ++ r → drop next s ≡ r
stands_behind d k at next s r long sum e = rw (← sum, ← drop-drop k at s, e) (drop_at d r k long)

module _ (at : ℕ) (a : Answer) (s : List ℕ) (fits : at + answer_size ≤ length s) where
  answer_stands : drop at (answer_put at a s) ≡ answer_bytes a ++ drop answer_size (drop at s)
  unfolding answer_put
  answer_stands = rw (le-leb _ _ fits) (drop_at (take at s) _ at (length-take-le at s (omega arith)))

  abbrev written : List ℕ
  written = answer_put at a s

  abbrev from_booked : List ℕ
  from_booked = low_bytes 2 a.booked ++ (low_bytes 2 a.length ++ drop answer_size (drop at s))

  failed_stands : drop at written ≡ low_bytes 8 a.failed.bits ++ (low_bytes 2 a.code ++ (a.row ∷ a.status ∷ from_booked))
  unfolding answer_bytes
  failed_stands = answer_stands ∙ simp append_assoc

  code_stands : drop (at + 8) written ≡ low_bytes 2 a.code ++ (a.row ∷ a.status ∷ from_booked)
  code_stands = stands_behind (low_bytes 8 a.failed.bits) 8 at (at + 8) written _ (low_length 8 _) refl failed_stands

  row_stands : drop (at + 10) written ≡ a.row ∷ a.status ∷ from_booked
  row_stands = stands_behind (low_bytes 2 a.code) 2 (at + 8) (at + 10) written _ (low_length 2 _) (omega arith) code_stands

  status_stands : drop (at + 11) written ≡ a.status ∷ from_booked
  status_stands = stands_behind (a.row ∷ []) 1 (at + 10) (at + 11) written _ refl (omega arith) row_stands

  booked_stands : drop (at + 12) written ≡ from_booked
  booked_stands = stands_behind (a.status ∷ []) 1 (at + 11) (at + 12) written _ refl (omega arith) status_stands

  length_stands : drop (at + 14) written ≡ low_bytes 2 a.length ++ drop answer_size (drop at s)
  length_stands = stands_behind (low_bytes 2 a.booked) 2 (at + 12) (at + 14) written _ (low_length 2 _) (omega arith) booked_stands

  pub answer_read : a.failed.bits < 2 ^ 64 → a.code < 65536 → a.row < 256 → a.status < 256 → a.booked < 65536 → a.length < 65536
      → answer_at at (answer_put at a s) ≡ a
  answer_read hf hc _ _ hb hl =
      let room : at + answer_size ≤ length written = rw answer_put_length fits in
      let failed : number_at 8 at written ≡ a.failed.bits
      = number_stands 8 at a.failed.bits written _ (omega arith) (omega arith) failed_stands in
      let code : number_at 2 (at + 8) written ≡ a.code
      = number_stands 2 (at + 8) a.code written _ (omega arith) (omega arith) code_stands in
      let booked : number_at 2 (at + 12) written ≡ a.booked
      = number_stands 2 (at + 12) a.booked written _ (omega arith) (omega arith) booked_stands in
      let len : number_at 2 (at + 14) written ≡ a.length
      = number_stands 2 (at + 14) a.length written _ (omega arith) (omega arith) length_stands in
      sym (answer_in_lem at written room (sym failed) (sym code) (sym booked) (sym len))
      ∙ rw (byte_stands (at + 10) a.row written _ row_stands, byte_stands (at + 11) a.status written _ status_stands)

-- the set of an answer's bytes is the answer's
pub set_read : (a : Answer) → a.failed.bits < 2 ^ 64 → (answer_at 0 (answer_bytes a)).failed ≡ a.failed
unfolding answer_at answer_bytes
set_read a h =
    let room : 0 + answer_size ≤ length (answer_bytes a) = rw answer_length (omega arith) in
    rw (le-leb _ _ room) (ap (λ (w : ℕ). record { bits = w }) (number_stands 8 0 a.failed.bits (answer_bytes a) _ (omega arith) (omega arith) refl))

-- answers that are not there are all alike
answer_none : (s : List ℕ) (at : ℕ) → length s < at + answer_size → answer_at at s ≡ zero_answer
unfolding answer_at
answer_none s at h = rw (lt-leb _ _ h)

pub answer_missing : (s : List ℕ) (k : ℕ) {a : Answer} → length s / answer_size ≤ k → a ≡ answer_at (length s) s → a ≡ answer_at (k * answer_size) s
answer_missing s k h e = e ∙ answer_none s (length s) (omega arith) ∙ sym (answer_none s (k * answer_size) (omega arith))

-- what the proofs of the functions cite
pub ruleset writing_laws = (answer_put_out, answer_put_in)
