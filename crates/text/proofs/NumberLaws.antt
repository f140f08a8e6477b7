-- Laws of little-endian numbers, over the count of their bytes.
-- Assumes nothing.
use Prim.Native.Nat.{ℕ, zero, suc, ◌+◌, ◌-◌, ◌*◌, ◌/◌, ◌%◌, ◌^◌, ◌≤◌, ◌<◌}
use native.Mathlib.Nat.{div-lt_iff_lt-mul, pow-suc, div-one, div-div-eq-div-mul, pow-le-pow_right, lt_of_lt_of_le}
use native.Mathlib.Numerals.{add-one}
use native.Mathlib.Omega.{arith}
use mathlib.Core.Bool.{Bool, true, false, cond}
use mathlib.Core.List.{List, [], ◌∷◌, ◌++◌}
use mathlib.Core.Path.{◌≡◌, refl, ap, sym, ◌∙◌}
use borrow.Author.Tests.{le-leb, lt-leb, leb-true, leb-false}
use lib.Arith.{digits_lt}
use lib.Dec.{lit<, leb}
use lib.ListN.{length, get_or, take, drop, length-append, length-take, length-drop, take-append-drop, drop_of_length-le}
use Rattle.std.proofs.Common.{append-nil}
use lib.Seq.{take_at, drop_at, drop-drop, length-take-le, take-suc, take_all}
use Rattle.std.specs.Int.{sum_through, byte_worth, byte_at, bytes_low_first}
use Rattle.std.specs.Array.{IsFirstChunk}
use Rattle.text.specs.Number.{little_endian, low_bytes, number_at, number_put}

pub low_length : (n x : ℕ) → length (low_bytes n x) ≡ n
unfolding low_bytes
low_length zero x = refl
low_length (suc n) x = ap suc (low_length n (x / 256))

-- the bytes of a number write it
pub little_low : (n x : ℕ) → x < 256 ^ n → little_endian (low_bytes n x) ≡ x
unfolding little_endian low_bytes
little_low zero x h = omega arith
little_low (suc n) x h =
    let q : x / 256 < 256 ^ n = (div-lt_iff_lt-mul (lit< tt)).1 (rw pow-suc at h) in
    rw (little_low n (x / 256) q) (omega arith)

-- one digit more, in any base; and a number of few digits is below a higher power
pub digit_more : (base v d i : ℕ) → v < base ^ i → d < base → v * base + d < base ^ (i + 1)
digit_more base v d i h k = rw (add-one, pow-suc) (digits_lt h k)

pub below_power : (base : ℕ) {x i n : ℕ} → x < suc base ^ i → i ≤ n → x < suc base ^ n
below_power base h k = lt_of_lt_of_le h (pow-le-pow_right (omega arith) k)

-- what a write leaves: the length, and at its place the number
pub put_length : (n at x : ℕ) (s : List ℕ) → length (number_put n at x s) ≡ length s
unfolding number_put
put_length n at x s = go (leb (at + n) (length s)) refl
  where
    go : (t : Bool) → leb (at + n) (length s) ≡ t → length (cond t (take at s ++ (low_bytes n x ++ drop n (drop at s))) s) ≡ length s
    go true e = let h : at + n ≤ length s = leb-true _ _ e in simp (length-append, length-take, length-drop, low_length) (omega arith)
    go false e = refl

put_bytes : (n at x : ℕ) (s : List ℕ) → at + n ≤ length s → take n (drop at (number_put n at x s)) ≡ low_bytes n x
unfolding number_put
put_bytes n at x s h =
    rw (le-leb _ _ h, drop_at (take at s) (low_bytes n x ++ drop n (drop at s)) at (length-take-le at s (omega arith)))
    (take_at (low_bytes n x) (drop n (drop at s)) n (low_length n x))

pub number_put_lem : (n at x : ℕ) (s : List ℕ) → at + n ≤ length s → x < 256 ^ n → number_at n at (number_put n at x s) ≡ x
unfolding number_at
number_put_lem n at x s h b =
    let l : at + n ≤ length (number_put n at x s) = rw put_length h in
    rw (le-leb _ _ l) (ap little_endian (put_bytes n at x s h) ∙ little_low n x b)

-- what stands before or behind the place where a number is put stays
module _ (n at x : ℕ) (s : List ℕ) (fits : at + n ≤ length s) where
  pub put_parts : number_put n at x s ≡ take at s ++ (low_bytes n x ++ drop n (drop at s))
  unfolding number_put
  put_parts = rw (le-leb _ _ fits)

  front_length : length (take at s) ≡ at
  front_length = length-take-le at s (omega arith)

  pub put_front : take at (number_put n at x s) ≡ take at s
  put_front = rw put_parts (take_at (take at s) _ at front_length)

  pub put_back : drop (at + n) (number_put n at x s) ≡ drop (at + n) s
  put_back =
      sym (drop-drop n at _)
      ∙ rw (put_parts, drop_at (take at s) (low_bytes n x ++ drop n (drop at s)) at front_length)
      (drop_at (low_bytes n x) (drop n (drop at s)) n (low_length n x) ∙ drop-drop n at s)

-- a number at a place is one at the start of what stands from there on, read and written
module _ (n at : ℕ) (s : List ℕ) where
  pub number_behind : number_at n 0 (drop at s) ≡ number_at n at s
  unfolding number_at little_endian
  number_behind = go (leb (0 + n) (length (drop at s))) (leb (at + n) (length s)) refl refl
    where
      x : ℕ
      x = little_endian (take n (drop at s))

      go : (a b : Bool) → leb (0 + n) (length (drop at s)) ≡ a → leb (at + n) (length s) ≡ b → cond a x 0 ≡ cond b x 0
      go true true p q = refl
      go false false p q = refl
      go true false p q =
          let none : n ≡ 0 = omega (arith, leb-true _ _ p, leb-false _ _ q, length-drop at s) in
          ap (λ (m : ℕ). little_endian (take m (drop at s))) none
      go false true p q = absurd (omega (arith, leb-false _ _ p, leb-true _ _ q, length-drop at s))

  pub put_behind : (x : ℕ) → at ≤ length s → take at s ++ number_put n 0 x (drop at s) ≡ number_put n at x s
  unfolding number_put
  put_behind x h = go (leb (0 + n) (length (drop at s))) (leb (at + n) (length s)) refl refl
    where
      ys : List ℕ
      ys = low_bytes n x ++ drop n (drop at s)

      go : (a b : Bool) → leb (0 + n) (length (drop at s)) ≡ a → leb (at + n) (length s) ≡ b → take at s ++ cond a ys (drop at s) ≡ cond b (take at s ++ ys) s
      go true true p q = refl
      go false false p q = take-append-drop at s
      go true false p q = absurd (omega (arith, leb-true _ _ p, leb-false _ _ q, length-drop at s))
      go false true p q = absurd (omega (arith, leb-false _ _ p, leb-true _ _ q, length-drop at s))

  pub put_rest : (x : ℕ) {ys : List ℕ} → at ≤ length s → ys ≡ number_put n 0 x (take (length s - at) (drop at s))
      → take at s ++ (ys ++ drop (length s - at) (drop at s)) ≡ number_put n at x s
  put_rest x h e =
      let all : length (drop at s) ≤ length s - at = omega (arith, length-drop at s) in
      rw (e, take_all _ _ all, drop_of_length-le (drop at s) all, append-nil) (put_behind x h)

  pub put_nowhere : (x : ℕ) → length s < at → s ≡ number_put n at x s
  unfolding number_put
  put_nowhere x h = let out : length s < at + n = omega arith in rw (lt-leb _ _ out)

-- the bytes of a number by the standard library
little_snoc : (s : List ℕ) (b : ℕ) → little_endian (s ++ (b ∷ [])) ≡ little_endian s + b * 256 ^ length s
unfolding little_endian
little_snoc [] b = omega arith
little_snoc (x ∷ s) b = rw (little_snoc s b, pow-suc 256 (length s)) (omega arith)

little_one : (s : List ℕ) → 0 < length s → get_or s 0 0 ≡ little_endian (take 1 s)
unfolding little_endian
little_one [] h = absurd (omega arith)
little_one (x ∷ s) h = omega arith

little_next : (s : List ℕ) (n : ℕ) → suc n < length s → little_endian (take (suc n) s) + get_or s (suc n) 0 * 256 ^ suc n ≡ little_endian (take (suc (suc n)) s)
little_next s n h =
    let l : length (take (suc n) s) ≡ suc n = length-take-le (suc n) s (omega arith) in
    rw (take-suc s (suc n) 0 h, little_snoc (take (suc n) s) (get_or s (suc n) 0), l) refl

worth : (s : List ℕ) (n : ℕ) → n < length s → sum_through (λ i. byte_worth i (get_or s i 0)) n ≡ little_endian (take (suc n) s)
worth s zero h = little_one s h
worth s (suc n) h = ap (λ (v : ℕ). v + get_or s (suc n) 0 * 256 ^ suc n) (worth s n (omega arith)) ∙ little_next s n h

pub low_from : (i n x : ℕ) → bytes_low_first i n x ≡ low_bytes n (x / 256 ^ i)
unfolding low_bytes
low_from i zero x = refl
low_from i (suc n) x =
    let next : x / 256 ^ suc i ≡ x / 256 ^ i / 256 = rw pow-suc (sym (div-div-eq-div-mul x (256 ^ i) 256)) in
    rw (head i, low_from (suc i) n x, next) refl
  where
    head : (j : ℕ) → byte_at j x ≡ x / 256 ^ j % 256
    head zero = rw div-one refl
    head (suc j) = refl

-- the cases of reading and writing at the start of a list
pub front_out : (n : ℕ) (s : List ℕ) → length s < n → 0 ≡ number_at n 0 s
unfolding number_at
front_out n s h = let out : length s < 0 + n = omega arith in rw (lt-leb _ _ out)

pub front_in : (n : ℕ) (s w : List ℕ) → IsFirstChunk s w (suc n) → sum_through (λ i. byte_worth i (get_or w i 0)) n ≡ number_at (suc n) 0 s
unfolding number_at
front_in n s w f =
    let enough : 0 + suc n ≤ length s = omega (arith, f.enough) in
    let l : length w ≡ suc n = rw f.same (length-take-le (suc n) s f.enough) in
    rw (le-leb _ _ enough) (worth w n (omega arith) ∙ ap little_endian (take_all (suc n) w (omega arith) ∙ f.same))

pub front_stays : (n x : ℕ) (s : List ℕ) → length s < n → s ≡ number_put n 0 x s
unfolding number_put
front_stays n x s h = let out : length s < 0 + n = omega arith in rw (lt-leb _ _ out)

pub front_put : (n x : ℕ) (s ys : List ℕ) → n ≤ length s → ys ≡ bytes_low_first 0 n x → ys ++ drop n s ≡ number_put n 0 x s
unfolding number_put
front_put n x s ys h e =
    let enough : 0 + n ≤ length s = omega arith in
    rw (le-leb _ _ enough) (ap (λ (l : List ℕ). l ++ drop n s) (e ∙ low_from 0 n x ∙ ap (low_bytes n) (div-one x)))
