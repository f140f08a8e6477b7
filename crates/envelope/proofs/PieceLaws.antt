-- Laws of the pieces of an envelope: the loops that read them, and where a piece that was found lies.
-- Assumes nothing.
use Prim.Native.Nat.{ℕ, suc, ◌+◌, ◌-◌, ◌<◌, ◌≤◌, zero-le, suc-le-suc}
use mathlib.Core.Bool.{Bool, true, false, ◌&&◌, cond, false≢true}
use mathlib.Core.List.{List, [], ◌∷◌}
use mathlib.Core.Path.{◌≡◌, refl, ap, sym, ◌∙◌}
use native.Mathlib.Numerals.{one-add}
use native.Mathlib.Omega.{arith}
use borrow.Author.Tests.{le-leb, leb-true}
use lib.Dec.{eqb, leb}
use Rattle.std.proofs.lemmas.Bool.Decides.{nat_tests}
use lib.ListN.{length, take, drop, get_or, length-drop}
use lib.Seq.{drop-cons, length-take-le}
use Rattle.frame.proofs.BoolLaws.{and_left, and_right}
use Rattle.text.specs.declared.Class.{Class}
use Rattle.text.specs.Class.{belongs_to}
use Rattle.text.specs.Bytes.{all}
use Rattle.std.specs.Prelude.{Option, Some, None}
use Rattle.std.specs.List.{prefix_len, take_while, starts_with}
use Rattle.std.proofs.lemmas.Option.{none-some, cond_some}
use Rattle.envelope.specs.Pieces.{run_of, begins, text_end, part_end, part_then, on}

-- a run, and a text at the front, in the words of the library
pub counted_run : (k : Class) (l : List ℕ) → length (take_while (belongs_to k) l) ≡ run_of k l
unfolding run_of
counted_run k [] = refl
counted_run k (b ∷ l) = go (belongs_to k b) (counted_run k l)
  where
    go : (x : Bool) → length (take (prefix_len (belongs_to k) l) l) ≡ run_of k l
        → length (take (cond x (1 + prefix_len (belongs_to k) l) 0) (b ∷ l)) ≡ cond x (suc (run_of k l)) 0
    go true e = rw (one-add (prefix_len (belongs_to k) l)) (ap suc e)
    go false e = refl

pub begins_there : (t l : List ℕ) → starts_with eqb l t ≡ begins t l
unfolding begins
begins_there [] l = refl
begins_there (a ∷ t) [] = refl
begins_there (a ∷ t) (b ∷ l) = let either : eqb a b ≡ eqb b a = grind (arith, nat_tests) in rw (begins_there t l, either)

-- a byte that is not of the class ends a run
pub run_stop : (k : Class) (s : List ℕ) (p : ℕ) → p < length s → belongs_to k (get_or s p 0) ≡ false → p ≡ p + run_of k (drop p s)
unfolding run_of
run_stop k s p h e = rw (drop-cons s p 0, e) (omega arith)

run_step : (x : Bool) (n m : ℕ) → n ≤ m → cond x (suc n) 0 ≤ suc m
run_step true n m h = suc-le-suc h
run_step false n m h = zero-le

pub run_within : (k : Class) (l : List ℕ) → run_of k l ≤ length l
unfolding run_of
run_within k [] = zero-le
run_within k (b ∷ l) = run_step (belongs_to k b) (run_of k l) (length l) (run_within k l)

-- the bytes of a run are of the class
run_all : (k : Class) (l : List ℕ) → all (belongs_to k) (take (run_of k l) l) ≡ true
unfolding run_of all
run_all k [] = refl
run_all k (b ∷ l) = go (belongs_to k b) refl (run_all k l)
  where
    go : (x : Bool) → belongs_to k b ≡ x → all (belongs_to k) (take (run_of k l) l) ≡ true
        → all (belongs_to k) (take (cond x (suc (run_of k l)) 0) (b ∷ l)) ≡ true
    go true e h = rw e h
    go false e h = refl

-- a run of lo to hi bytes of a class, taken: it has so many bytes, and all are of the class
pub run_form : (k : Class) (lo hi n : ℕ) (l : List ℕ) → n ≡ run_of k l → lo ≤ run_of k l → run_of k l ≤ hi
    → (leb lo (length (take n l)) && leb (length (take n l)) hi && all (belongs_to k) (take n l)) ≡ true
run_form k lo hi n l e a b = rw (e, length-take-le (run_of k l) l (run_within k l), le-leb _ _ a, le-leb _ _ b) (run_all k l)

-- a chain that comes to v found what it began with
pub found : {A P : Type 0} (x : Option P) (none v : A) (f : P → A) → (none ≡ v → ⊥) → on x none f ≡ v → (p : P) × ((x ≡ Some p) × (f p ≡ v))
found (Some p) none v f n e = (p, (refl, e))
found None none v f n e = absurd (n e)

pub picked : (x : Bool) (p q : ℕ) → cond x (Some p) None ≡ Some q → (x ≡ true) × (q ≡ p)
picked x p q e = let w = cond_some x p q e in (w.0, sym w.1)

begins_long : (t l : List ℕ) → begins t l ≡ true → length t ≤ length l
unfolding begins
begins_long [] l e = zero-le
begins_long (a ∷ t) [] e = absurd (false≢true e)
begins_long (a ∷ t) (b ∷ l) e = suc-le-suc (begins_long t l (and_right (eqb b a) _ e))

-- where a piece that was found ends
module _ (s : List ℕ) (p q : ℕ) (h : p ≤ length s) where
  pub text_found : (t : List ℕ) → text_end s p t ≡ Some q → (q ≡ p + length t) × (q ≤ length s)
  unfolding text_end
  text_found t e =
      let w = picked (begins t (drop p s)) (p + length t) q e in
      let l : length t ≤ length s - p = rw length-drop at (begins_long t (drop p s) w.0) in
      (w.1, omega arith)

  -- a part: the run of its class, of lo to hi bytes
  pub part_found : (k : Class) (lo hi : ℕ) → part_end s p k lo hi ≡ Some q
      → (q ≡ p + run_of k (drop p s)) × (lo ≤ run_of k (drop p s)) × (run_of k (drop p s) ≤ hi) × (q ≤ length s)
  unfolding part_end
  part_found k lo hi e =
      let n = run_of k (drop p s) in
      let w = picked (leb lo n && leb n hi) (p + n) q e in
      let f : n ≤ length s - p = rw length-drop at (run_within k (drop p s)) in
      (w.1, leb-true lo n (and_left (leb lo n) _ w.0), leb-true n hi (and_right (leb lo n) _ w.0), omega (arith, w.1))

-- a part and the text behind it: the part's length, then the text's
pub then_found : (s : List ℕ) (p q : ℕ) (h : p ≤ length s) (k : Class) (lo hi : ℕ) (t : List ℕ) → part_then s p k lo hi t ≡ Some q
    → (q ≡ p + run_of k (drop p s) + length t) × (lo ≤ run_of k (drop p s)) × (run_of k (drop p s) ≤ hi) × (q ≤ length s)
unfolding part_then
then_found s p q h k lo hi t e =
    let w = found (part_end s p k lo hi) None (Some q) (λ z. text_end s z t) (none-some q) e in
    let a = part_found s p w.0 h k lo hi w.1.0 in
    let b = text_found s w.0 q a.3 t w.1.1 in
    (b.0 ∙ ap (λ (x : ℕ). x + length t) a.0, a.1, a.2, b.1)
