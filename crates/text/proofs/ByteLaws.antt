-- Laws of the tests and searches over a list of bytes: what the functions use, and what callers use.
-- Assumes nothing.
use Prim.Native.Nat.{ℕ, zero, suc, ◌+◌, ◌-◌, ◌*◌, ◌<◌, ◌≤◌, zero-le, suc-le-suc}
use mathlib.Core.Bool.{Bool, true, false, ◌&&◌, cond, false≢true}
use mathlib.Core.List.{List, [], ◌∷◌, ◌++◌}
use mathlib.Core.Path.{◌≡◌, refl, ap, sym, ◌∙◌}
use native.Mathlib.Nat.{not-suc-le-zero, le_of_suc-le-suc, le_of_eq, suc-add, zero-mul, suc-mul}
use native.Mathlib.Numerals.{add-one}
use native.Mathlib.Omega.{arith}
use borrow.Author.Tests.{eq-eqb, ne_eqb, eqb-true, eqb-false, leb-true}
use lib.Bits.{bit_or, or_zero_l, or_add_and, and_le_r}
use lib.Dec.{eqb, leb, ltb}
use lib.ListN.{length, get_or, take, drop, length-drop, drop_of_length-le, take-append-drop}
use lib.Seq.{drop-cons, drop-drop, drop_at, take_all, take-add, take-take, get_or-take, length-take-le}
use Rattle.std.specs.List.{list_all}
use Rattle.std.specs.Simd.{first_chunks}
use Rattle.frame.specs.Every.{every}
use Rattle.frame.specs.Parts.{part}
use Rattle.frame.proofs.BoolLaws.{and_left, and_right, and_intro, and_true, and_assoc}
use Rattle.text.specs.Class.{is_digit}
use Rattle.text.specs.Bytes.{all, same, position_of}

abbrev pub is_byte : ℕ → Bool
is_byte b = ltb b 256

-- bits put together are none where each is none
or_none : (a b : ℕ) → eqb (bit_or a b) 0 ≡ eqb a 0 && eqb b 0
or_none a b = go (eqb a 0) refl
  where
    go : (x : Bool) → eqb a 0 ≡ x → eqb (bit_or a b) 0 ≡ x && eqb b 0
    go true e = rw (eqb-true a 0 e, or_zero_l b) refl
    go false e = ne_eqb (bit_or a b) 0 (λ z. eqb-false a 0 e (omega (arith, z, or_add_and a b, and_le_r a b)))

-- what a loop knows that puts marks together, of which those of bytes that pass are 0: every byte passes where no mark is set and the rest passes
module _ (p : ℕ → Bool) (s : List ℕ) (i marks : ℕ) (e : all p s ≡ eqb marks 0 && all p (drop i s)) where
  pub marks_go : (m : ℕ) → i < length s → eqb m 0 ≡ p (get_or s i 0) → all p s ≡ eqb (bit_or marks m) 0 && all p (drop (i + 1) s)
  unfolding all
  marks_go m h q = e ∙ rw (add-one, drop-cons s i 0, ← q, or_none marks m) (and_assoc (eqb marks 0) _ _)

  pub marks_end : length s ≤ i → eqb marks 0 ≡ all p s
  unfolding all
  marks_end h = sym (e ∙ rw (drop_of_length-le s h) (and_true (eqb marks 0)))

-- two lists put together pass where both do; a list where its front and its rest do
pub all_append : (p : ℕ → Bool) (s t : List ℕ) → all p (s ++ t) ≡ all p s && all p t
unfolding all
all_append p [] t = refl
all_append p (x ∷ s) t = rw (all_append p s t) (and_assoc (p x) _ _)

pub all_split : (p : ℕ → Bool) (n : ℕ) (s : List ℕ) → all p s ≡ all p (take n s) && all p (drop n s)
all_split p n s = ap (all p) (sym (take-append-drop n s)) ∙ all_append p (take n s) (drop n s)

-- a list passes where its whole blocks do and what is left behind them
pub all_blocks : (p : ℕ → Bool) (size n : ℕ) (s : List ℕ) → list_all (all p) (first_chunks size n s) && all p (drop (n * size) s) ≡ all p s
unfolding all
all_blocks p size zero s = rw zero-mul refl
all_blocks p size (suc n) s =
    let behind : suc n * size ≡ size + n * size = omega (arith, suc-mul n size) in
    rw (behind, ← drop-drop (n * size) size s)
    (sym (and_assoc (all p (take size s)) _ _) ∙ rw (all_blocks p size n (drop size s)) (sym (all_split p size s)))

pub position_le : (b : ℕ) (s : List ℕ) → position_of b s ≤ length s
unfolding position_of
position_le b [] = zero-le
position_le b (x ∷ xs) = at (eqb x b) (position_le b xs)
  where
    at : (t : Bool) → position_of b xs ≤ length xs → cond t 0 (suc (position_of b xs)) ≤ suc (length xs)
    at true h = zero-le
    at false h = suc-le-suc h

-- a text passes where both sides of the first byte b do, and b itself
pub all_around : (p : ℕ → Bool) (b : ℕ) → p b ≡ true → (s : List ℕ) → position_of b s < length s
    → all p (take (position_of b s) s) && all p (drop (position_of b s + 1) s) ≡ all p s
unfolding all position_of
all_around p b passes [] h = absurd (not-suc-le-zero h)
all_around p b passes (x ∷ s) h = go (eqb x b) refl h (all_around p b passes s)
  where
    k : ℕ
    k = position_of b s

    go : (q : Bool) → eqb x b ≡ q → cond q 0 (suc k) < suc (length s) → (k < length s → all p (take k s) && all p (drop (k + 1) s) ≡ all p s)
        → all p (take (cond q 0 (suc k)) (x ∷ s)) && all p (drop (cond q 0 (suc k) + 1) (x ∷ s)) ≡ p x && all p s
    go true e l rest = rw (eqb-true x b e, passes) refl
    go false e l rest = rw suc-add (sym (and_assoc (p x) _ _) ∙ ap (λ (q : Bool). p x && q) (rest (omega arith)))

-- what every byte passes, the byte at i passes
pub all_get : (p : ℕ → Bool) (s : List ℕ) (i : ℕ) → all p s ≡ true → i < length s → p (get_or s i 0) ≡ true
unfolding all
all_get p [] i e h = absurd (not-suc-le-zero h)
all_get p (x ∷ xs) zero e h = and_left _ _ e
all_get p (x ∷ xs) (suc i) e h = all_get p xs i (and_right (p x) _ e) (le_of_suc-le-suc h)

-- what passes a test passes a weaker one
pub all_weaker : (p q : ℕ → Bool) → ((b : ℕ) → p b ≡ true → q b ≡ true) → (s : List ℕ) → all p s ≡ true → all q s ≡ true
unfolding all
all_weaker p q f [] e = refl
all_weaker p q f (x ∷ s) e = and_intro (q x) _ (f x (and_left (p x) _ e)) (all_weaker p q f s (and_right (p x) _ e))

-- a list of n parts of one size passes where each part does
module _ (p : ℕ → Bool) (size : ℕ) (s : List ℕ) where
  all_fronts : (n : ℕ) → all p (take (n * size) s) ≡ every n (λ k. all p (part size k s))
  unfolding all every part
  all_fronts zero = rw zero-mul refl
  all_fronts (suc n) = rw (suc-mul n size, take-add (n * size) size s, all_append, all_fronts n) refl

  pub all_parts : (n : ℕ) → length s ≡ n * size → all p s ≡ every n (λ k. all p (part size k s))
  all_parts n e = ap (all p) (sym (take_all (n * size) s (le_of_eq e))) ∙ all_fronts n

pub digit_low : (b : ℕ) → is_digit b ≡ true → 48 ≤ b
digit_low b e = leb-true _ _ (and_left _ _ e)

pub digit_high : (b : ℕ) → is_digit b ≡ true → b ≤ 57
digit_high b e = leb-true _ _ (and_right (leb 48 b) _ e)

-- lists that are the same are equal
pub same_refl : (s : List ℕ) → same s s ≡ true
unfolding same
same_refl [] = refl
same_refl (x ∷ s) = and_intro (eqb x x) _ (eq-eqb x x refl) (same_refl s)

pub same_true : (s t : List ℕ) → same s t ≡ true → s ≡ t
unfolding same
same_true [] [] e = refl
same_true [] (y ∷ t) e = absurd (false≢true e)
same_true (x ∷ s) [] e = absurd (false≢true e)
same_true (x ∷ s) (y ∷ t) e = rw (eqb-true x y (and_left (eqb x y) _ e), same_true s t (and_right (eqb x y) _ e))

-- lists that differ in whatever is read of them, as their length or a word, are not the same
pub same_apart : (f : List ℕ → ℕ) (s t : List ℕ) → (f s ≡ f t → ⊥) → false ≡ same s t
same_apart f s t n = go (same s t) refl
  where
    go : (b : Bool) → same s t ≡ b → false ≡ b
    go true e = absurd (n (ap f (same_true s t e)))
    go false e = refl

-- the comparison may be turned round
eqb_sym : (x y : ℕ) → eqb x y ≡ eqb y x
eqb_sym x y = of (eqb x y) refl
  where
    of : (b : Bool) → eqb x y ≡ b → eqb x y ≡ eqb y x
    of true e = e ∙ sym (eq-eqb y x (sym (eqb-true x y e)))
    of false e = e ∙ sym (ne_eqb y x (λ q. eqb-false x y e (sym q)))

pub same_sym : (s t : List ℕ) → same s t ≡ same t s
unfolding same
same_sym [] [] = refl
same_sym [] (y ∷ t) = refl
same_sym (x ∷ s) [] = refl
same_sym (x ∷ s) (y ∷ t) = rw (eqb_sym x y, same_sym s t) refl

-- a list made of two, compared with one list: front with front, rest with rest
pub same_split : (a b s : List ℕ) → length a ≤ length s → same a (take (length a) s) && same b (drop (length a) s) ≡ same (a ++ b) s
unfolding same
same_split [] b s h = refl
same_split (x ∷ a) b [] h = absurd (not-suc-le-zero h)
same_split (x ∷ a) b (y ∷ s) h = sym (and_assoc (eqb x y) _ _) ∙ ap (λ (t : Bool). eqb x y && t) (same_split a b s (le_of_suc-le-suc h))

-- what `&s[a..]` holds
pub take_rest : (a : ℕ) (s : List ℕ) → take (length s - a) (drop a s) ≡ drop a s
take_rest a s = take_all _ _ (le_of_eq (length-drop a s))

-- two texts that begin alike up to a place have the same bytes and the same parts before it
module _ (m : ℕ) (s t : List ℕ) (e : take m s ≡ take m t) where
  pub front_byte : (i : ℕ) → i < m → get_or s i 0 ≡ get_or t i 0
  front_byte i h = sym (get_or-take m s i 0 h) ∙ ap (λ (l : List ℕ). get_or l i 0) e ∙ get_or-take m t i 0 h

  pub front_part : (a k : ℕ) → a + k ≤ m → a ≤ length s → a ≤ length t → take k (drop a s) ≡ take k (drop a t)
  front_part a k h ls lt =
      part_of s ls ∙ ap (drop a) (sym (take-take (a + k) m s h) ∙ ap (take (a + k)) e ∙ take-take (a + k) m t h) ∙ sym (part_of t lt)
    where
      part_of : (l : List ℕ) → a ≤ length l → take k (drop a l) ≡ drop a (take (a + k) l)
      part_of l h = sym (ap (drop a) (take-add a k l) ∙ drop_at (take a l) (take k (drop a l)) a (length-take-le a l h))
