-- Laws of the parts of a line: where they lie, that what is left grows less, and which bytes pieces are.
-- Assumes nothing.
use Prim.Native.Nat.{ℕ, zero, suc, ◌+◌, ◌-◌, ◌<◌, ◌≤◌}
use mathlib.Core.Bool.{Bool, true, false, cond}
use mathlib.Core.List.{List, [], ◌∷◌, ◌++◌, append_assoc}
use mathlib.Core.Path.{◌≡◌, refl, ap, sym, ◌∙◌}
use native.Mathlib.Numerals.{add-one}
use native.Mathlib.Omega.{arith}
use borrow.Author.Tests.{le-leb, ltb-true, ltb-false}
use denote.Ref.{Bor}
use lib.Dec.{ltb}
use lib.ListN.{length, take, drop, length-drop, drop_of_length-le}
use Rattle.std.specs.Prelude.{Some, None}
use Rattle.std.proofs.Common.{append-nil}
use Rattle.frame.specs.Every.{within}
use Rattle.text.specs.Bytes.{position_of}
use Rattle.text.specs.Part.{Lies}
use Rattle.page.specs.declared.Page.{Page}
use Rattle.page.specs.Lent.{with_text}
use Rattle.page.proofs.LentLaws.{with_both, with_nothing}
use Rattle.words.specs.Words.{before_first, behind_first, tail_start, next_place, byte_of, bytes_of, repeated}

-- what stands before the first byte b is the front up to that byte
pub lies_before : (b : ℕ) {s r : Bor (List ℕ)} {k : ℕ} → k ≡ position_of b s.now → Lies s 0 (take k s.now) r → Lies s 0 (before_first b s.now) r
unfolding before_first
lies_before b e front = rw e at front

-- behind the first byte b, where it stands, and nothing where it doesn't
pub behind_found : (b k : ℕ) (s : List ℕ) → Some k ≡ within (length s) (position_of b s) → (k < length s) × (drop (k + 1) s ≡ behind_first b s)
unfolding behind_first
behind_found b k s = go (ltb (position_of b s) (length s)) refl
  where
    go : (t : Bool) → ltb (position_of b s) (length s) ≡ t → Some k ≡ cond t (Some (position_of b s)) None → (k < length s) × (drop (k + 1) s ≡ drop (suc (position_of b s)) s)
    go true l e = let same : k ≡ position_of b s = cc in (rw same (ltb-true _ _ l), rw (same, add-one) refl)
    go false l e = absurd (cc)

pub behind_none : (b : ℕ) (s : List ℕ) → None ≡ within (length s) (position_of b s) → drop (length s) s ≡ behind_first b s
unfolding behind_first
behind_none b s = go (ltb (position_of b s) (length s)) refl
  where
    go : (t : Bool) → ltb (position_of b s) (length s) ≡ t → None ≡ cond t (Some (position_of b s)) None → drop (length s) s ≡ drop (suc (position_of b s)) s
    go true l e = absurd (cc)
    go false l e =
        let past : length s ≤ suc (position_of b s) = omega (arith, ltb-false _ _ l) in
        drop_of_length-le s (omega arith) ∙ sym (drop_of_length-le s past)

-- it reaches to the end
pub lies_behind : (b k : ℕ) {s r : Bor (List ℕ)} → k ≤ length s.now → drop k s.now ≡ behind_first b s.now → r.now ≡ drop k s.now
    → r.ref_ptr ≡ (s.ref_ptr.0, s.ref_ptr.1 + k) → Lies s (tail_start s.now (behind_first b s.now)) (behind_first b s.now) r
lies_behind b k {s} h e bytes address =
    let place : k ≡ tail_start s.now (behind_first b s.now) = omega (arith, ap length e, length-drop k s.now) in
    record { bytes = bytes ∙ e; address = address ∙ ap (λ (n : ℕ). (s.ref_ptr.0, s.ref_ptr.1 + n)) place }

module _ (b at : ℕ) (s : List ℕ) where
  length_behind : length (behind_first b (drop at s)) ≡ (length s - at) - suc (position_of b (drop at s))
  unfolding behind_first
  length_behind = simp length-drop

  -- what stands behind a byte is no longer than the text
  pub behind_within : length (behind_first b (drop at s)) ≤ length s
  behind_within = omega (arith, length_behind)

-- less is left from the place behind a byte than from the place from which the byte is looked for
pub next_less : (b : ℕ) (s : List ℕ) {at r : ℕ} → r ≡ next_place b at s → at < length s → length s - r < length s - at
unfolding next_place
next_less b s {at} e h = omega (arith, e, length_behind b at s)

-- what a loop knows that writes the bytes of digits one by one: what is still to be written are those of the digits that are left
two_digits : (s : List ℕ) → 2 ≤ length s → bytes_of s ≡ byte_of s ∷ bytes_of (drop 2 s)
unfolding bytes_of byte_of
two_digits [] h = absurd (omega arith)
two_digits (x ∷ []) h = absurd (omega arith)
two_digits (x ∷ (y ∷ s)) h = rw (le-leb 2 (length (x ∷ (y ∷ s))) h) refl

pub bytes_more : (s t : List ℕ) (q : Page) {p r : Page} {b : ℕ} → 2 ≤ length s → with_text q (bytes_of s) ≡ p → b ≡ byte_of s
    → r ≡ with_text q (b ∷ []) → t ≡ drop 2 s → with_text r (bytes_of t) ≡ p
bytes_more s t q h e d f l = rw (f, l) (with_both q _ _ ∙ ap (with_text q) (rw d (sym (two_digits s h))) ∙ e)

no_digits : (s : List ℕ) → length s < 2 → bytes_of s ≡ []
unfolding bytes_of
no_digits [] h = refl
no_digits (x ∷ []) h = refl
no_digits (x ∷ (y ∷ s)) h = absurd (omega arith)

pub bytes_done : (s : List ℕ) (q : Page) {p : Page} → length s < 2 → with_text q (bytes_of s) ≡ p → q ≡ p
bytes_done s q h e = sym (with_nothing q) ∙ ap (with_text q) (sym (no_digits s h)) ∙ e

-- a text once more
pub repeated_more : (n : ℕ) (t : List ℕ) → repeated n t ++ t ≡ repeated (n + 1) t
unfolding repeated
repeated_more n t = rw (add-one n) (go n)
  where
    go : (n : ℕ) → repeated n t ++ t ≡ t ++ repeated n t
    go zero = sym (append-nil t)
    go (suc n) = rw append_assoc (ap (λ (x : List ℕ). t ++ x) (go n))

-- a piece once more
pub ruleset times_laws = (with_both, with_nothing, repeated_more)
