-- Laws of reading a record block by block: a block whose bytes are all above the apostrophe is of the record; a run ends in a block or goes on behind it.
-- Assumes nothing.
use Prim.Native.Nat.{ℕ, zero, suc, ◌+◌, ◌-◌, ◌*◌, ◌/◌, ◌<◌, ◌≤◌}
use native.Mathlib.Nat.{not-suc-le-zero, le_of_suc-le-suc}
use native.Mathlib.Omega.{arith}
use mathlib.Core.Bool.{Bool, true, false, cond}
use mathlib.Core.List.{List, [], ◌∷◌}
use mathlib.Core.Path.{◌≡◌, refl, ap, ◌∙◌}
use borrow.Author.Tests.{ltb-true, ne_eqb, eqb-true}
use lib.Dec.{eqb}
use lib.ListN.{length, get_or, take, drop, length-drop}
use lib.Seq.{drop-drop}
use Rattle.std.specs.Simd.{first_chunks}
use Rattle.frame.specs.Parts.{part}
use Rattle.frame.proofs.ListLaws.{chunks_parts}
use Rattle.frame.proofs.BoolLaws.{and_left, and_right}
use Rattle.text.specs.declared.Class.{Class}
use Rattle.text.specs.declared.Class.TheVariants.{RecordByte, AboveApostrophe}
use Rattle.text.specs.Class.{belongs_to}
use Rattle.text.specs.Bytes.{all}
use Rattle.text.proofs.ByteLaws.{all_weaker}
use Rattle.envelope.specs.Pieces.{run_of}
use Rattle.envelope.proofs.PieceLaws.{run_stop}

run_whole : (k : Class) (l : List ℕ) → all (belongs_to k) l ≡ true → length l ≡ run_of k l
unfolding all run_of
run_whole k [] e = refl
run_whole k (b ∷ l) e = rw (and_left (belongs_to k b) _ e) (ap suc (run_whole k l (and_right (belongs_to k b) _ e)))

above_record : (b : ℕ) → belongs_to AboveApostrophe b ≡ true → belongs_to RecordByte b ≡ true
above_record b e =
    let h : 39 < b = ltb-true 39 b e in
    rw (ne_eqb b 13 (omega arith), ne_eqb b 10 (omega arith), ne_eqb b 39 (omega arith)) refl

pub above_run : (l : List ℕ) → all (belongs_to AboveApostrophe) l ≡ true → length l ≡ run_of RecordByte l
above_run l e = run_whole RecordByte l (all_weaker (belongs_to AboveApostrophe) (belongs_to RecordByte) above_record l e)

-- an empty record ends where its CR stands
pub record_empty : (s : List ℕ) (at : ℕ) → at < length s → eqb (get_or s at 0) 13 ≡ true → at ≡ at + run_of RecordByte (drop at s)
record_empty s at h e = run_stop RecordByte s at h (rw (eqb-true (get_or s at 0) 13 e))

-- a run that ends within the first n is the list's; one that doesn't goes on behind them
run_front : (k : Class) (n : ℕ) (l : List ℕ) → run_of k (take n l) < n → n ≤ length l → run_of k (take n l) ≡ run_of k l
unfolding run_of
run_front k zero l h f = absurd (not-suc-le-zero h)
run_front k (suc n) [] h f = absurd (not-suc-le-zero f)
run_front k (suc n) (b ∷ l) h f = go (belongs_to k b) h (λ g. run_front k n l g (le_of_suc-le-suc f))
  where
    go : (x : Bool) → cond x (suc (run_of k (take n l))) 0 < suc n → (run_of k (take n l) < n → run_of k (take n l) ≡ run_of k l)
        → cond x (suc (run_of k (take n l))) 0 ≡ cond x (suc (run_of k l)) 0
    go true g r = ap suc (r (le_of_suc-le-suc g))
    go false g r = refl

run_over : (k : Class) (n : ℕ) (l : List ℕ) → n ≤ run_of k (take n l) → n ≤ length l → run_of k l ≡ n + run_of k (drop n l)
unfolding run_of
run_over k zero l h f = omega arith
run_over k (suc n) [] h f = absurd (not-suc-le-zero f)
run_over k (suc n) (b ∷ l) h f = go (belongs_to k b) h (λ g. run_over k n l g (le_of_suc-le-suc f))
  where
    go : (x : Bool) → suc n ≤ cond x (suc (run_of k (take n l))) 0 → (n ≤ run_of k (take n l) → run_of k l ≡ n + run_of k (drop n l))
        → cond x (suc (run_of k l)) 0 ≡ suc n + run_of k (drop n l)
    go true g r = let e = r (le_of_suc-le-suc g) in omega arith
    go false g r = absurd (not-suc-le-zero g)

-- block i of what follows a place of s, with a run of n bytes: it begins at p
module _ (k : Class) (s : List ℕ) (at i p n : ℕ) (d : List ℕ) {rest : List ℕ} {blocks : List (List ℕ)} (bytes : rest ≡ drop at s)
    (front : blocks ≡ first_chunks 16 (length rest / 16) rest) (more : i < length blocks) (place : p ≡ at + i * 16)
    (e : n ≡ run_of k (get_or blocks i d)) where
  inside : 16 ≤ length (drop p s)
  inside =
      let count : length blocks ≡ length rest / 16 = ap length front ∙ (chunks_parts 16 rest).count in
      let long : length rest ≡ length s - at = ap length bytes ∙ length-drop at s in
      rw length-drop (omega (arith, count, long, more, place))

  run : n ≡ run_of k (take 16 (drop p s))
  unfolding part
  run =
      let there : get_or (first_chunks 16 (length rest / 16) rest) i d ≡ take 16 (drop (i * 16) rest) = (chunks_parts 16 rest).each i d (rw front at more) in
      let place_of : drop (i * 16) rest ≡ drop p s = rw (bytes, drop-drop (i * 16) at s, place) refl in
      e ∙ rw (front, there, place_of) refl

  pub block_short : n < 16 → p + n ≡ p + run_of k (drop p s)
  block_short l = ap (λ (x : ℕ). p + x) (run ∙ run_front k 16 (drop p s) (rw run at l) inside)

  pub block_whole : 16 ≤ n → p + run_of k (drop p s) ≡ p + 16 + run_of k (drop (p + 16) s)
  block_whole l =
      let over : run_of k (drop p s) ≡ 16 + run_of k (drop 16 (drop p s)) = run_over k 16 (drop p s) (rw run at l) inside in
      let behind : drop 16 (drop p s) ≡ drop (p + 16) s = drop-drop 16 p s in
      let whole : run_of k (drop p s) ≡ 16 + run_of k (drop (p + 16) s) = over ∙ rw behind refl in
      omega (arith, whole)
