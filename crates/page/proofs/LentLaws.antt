-- Laws of a text that is written on a lent page.
-- Assumes nothing.
use Prim.Native.Nat.{ℕ, ◌+◌, ◌-◌, ◌<◌, ◌≤◌, min}
use native.Mathlib.Omega.{arith}
use lib.ListN.{length, take, drop}
use lib.Seq.{drop-drop}
use mathlib.Core.List.{List, [], ◌++◌, append_assoc}
use mathlib.Core.Path.{◌≡◌, refl, ap, sym, ◌∙◌}
use Rattle.page.specs.Page.{page, appended}
use Rattle.page.specs.declared.Page.{Page as Lent}
use Rattle.page.specs.Lent.{page_of, with_page, with_text}
use Rattle.page.proofs.PageLaws.{appended_both, appended_length, appended_full, appended_cut}

-- one text behind another
pub with_both : (p : Lent) (s t : List ℕ) → with_text (with_text p s) t ≡ with_text p (s ++ t)
unfolding with_text
with_both p s t = ap (with_page p) (appended_both (page_of p) s t)

-- nothing more in it
pub with_nothing : (p : Lent) → with_text p [] ≡ p
unfolding with_text appended
with_nothing p = refl

-- it stays as long as it is
pub with_length : (p : Lent) (t : List ℕ) {q : Lent} → q ≡ with_text p t → length q.room.now ≡ length p.room.now
unfolding with_text
with_length p t e = ap (λ (x : Lent). length x.room.now) e ∙ appended_length (page_of p) t refl

-- what its lender finds in the buffer when the page is done with
pub left_by : (p : Lent) (t : List ℕ) {q : Lent} {out : List ℕ} → q ≡ with_text p t
    → (p.room.ghost_name ≡ q.room.ghost_name → out ≡ q.room.now) → page out q.end ≡ appended (page_of p) t
unfolding with_text
left_by p t {q} e same =
    ap (λ (x : List ℕ). page x q.end) (same (sym (ap (λ (x : Lent). x.room.ghost_name) e))) ∙ ap page_of e

-- a page that has no room, and one on which n bytes of a text have room
pub with_none : (p : Lent) (t : List ℕ) → length p.room.now ≤ p.end → p ≡ with_text p t
unfolding with_text
with_none p t h = ap (with_page p) (appended_full p.room.now p.end t h)

pub with_cut : (p : Lent) (t : List ℕ) {n : ℕ} {w : List ℕ} → p.end < length p.room.now → n ≡ min (length t) (length p.room.now - p.end)
    → w ≡ take n t → with_page p (page (take p.end p.room.now ++ (w ++ drop (p.end + n - p.end) (drop p.end p.room.now))) (p.end + n)) ≡ with_text p t
unfolding with_text
with_cut p t {n} {w} h e f =
    let end : p.end + (p.end + n - p.end) ≡ p.end + n = omega arith in
    let behind : drop (p.end + n - p.end) (drop p.end p.room.now) ≡ drop (p.end + n) p.room.now
    = drop-drop (p.end + n - p.end) p.end p.room.now ∙ ap (λ (m : ℕ). drop m p.room.now) end in
    ap (with_page p) (rw (f, behind, ← append_assoc) (appended_cut p.room.now p.end t n (omega (arith, e)) (omega (arith, e)) (λ l. omega (arith, e))))
