-- What a list holds after one part of it is replaced.
-- Assumes nothing.
use Prim.Native.Nat.{ℕ, ◌+◌, ◌-◌, ◌*◌, ◌/◌, ◌%◌, ◌≤◌, ◌<◌}
use native.Mathlib.Nat.{suc-mul, mul-le-mul_right, div-add-mod', div-lt_iff_lt-mul, mod-lt}
use native.Mathlib.Decide.{dec_lt}
use native.Mathlib.Omega.{arith}
use mathlib.Core.Path.{◌≡◌, ap, subst, sym, ◌∙◌}
use mathlib.Core.List.{List, ◌++◌}
use mathlib.Core.Logic.{◌≢◌}
use lib.ListN.{length, get_or, take, drop, replicate, length-append, length-take, length-drop, length-replicate}
use lib.ListN.{get_or-replicate, get_or-append, take-append-drop}
use lib.Seq.{take_at, drop_at, get_or-append-add, get_or-take, get_or-drop, length-take-le, ext_get_or}
use Rattle.frame.specs.Parts.{part, put}

-- part k ends before part j begins, or where it begins
pub before : (size : ℕ) {j k : ℕ} → j < k → j * size + size ≤ k * size
before size {j} {k} h = subst (λ (n : ℕ). n ≤ k * size) (suc-mul j size) (mul-le-mul_right size h)

pub part_length : (size k : ℕ) (xs : List ℕ) → k * size + size ≤ length xs → length (part size k xs) ≡ size
unfolding part
part_length size k xs fits = simp (length-take, length-drop) (omega arith)

pub part_at : (size k : ℕ) (xs : List ℕ) (i : ℕ) → i < size → get_or (part size k xs) i 0 ≡ get_or xs (k * size + i) 0
unfolding part
part_at size k xs i h = rw (get_or-take, get_or-drop)

module _ (size k : ℕ) (ys xs : List ℕ) (fits : k * size + size ≤ length xs) (sized : length ys ≡ size) where
  front : length (take (k * size) xs) ≡ k * size
  front = length-take-le (k * size) xs (omega arith)

  pub put_length : length (put size k ys xs) ≡ length xs
  unfolding put
  put_length = simp (length-append, length-take, length-drop, sized) (omega arith)

  pub part_put : part size k (put size k ys xs) ≡ ys
  unfolding part put
  part_put = ap (take size) (drop_at (take (k * size) xs) _ (k * size) front) ∙ take_at ys _ size sized

  pub put_low : (i : ℕ) → i < k * size → get_or (put size k ys xs) i 0 ≡ get_or xs i 0
  unfolding put
  put_low i h = get_or-append (take (k * size) xs) _ 0 i (rw front h) ∙ get_or-take (k * size) xs i 0 h

  pub put_high : (i : ℕ) → k * size + size ≤ i → get_or (put size k ys xs) i 0 ≡ get_or xs i 0
  unfolding put
  put_high i h =
      let j : ℕ = i - (k * size + size) in
      let here : i ≡ length (take (k * size) xs) + (length ys + j) = rw (front, sized) (omega arith) in
      let there : k * size + (size + j) ≡ i = omega arith in
      ap (λ (n : ℕ). get_or (put size k ys xs) n 0) here
      ∙ get_or-append-add (take (k * size) xs) _ (length ys + j) 0
      ∙ get_or-append-add ys _ j 0
      ∙ get_or-drop size (drop (k * size) xs) j 0
      ∙ get_or-drop (k * size) xs (size + j) 0
      ∙ ap (λ (n : ℕ). get_or xs n 0) there

  pub part_put_other : (j : ℕ) → j ≢ k → j * size + size ≤ length xs → part size j (put size k ys xs) ≡ part size j xs
  part_put_other j ne inside =
      ext_get_or 0 _ _ (part_length size j (put size k ys xs) (rw put_length inside) ∙ sym (part_length size j xs inside))
      (λ i h. let h : i < size = rw (part_length size j (put size k ys xs) (rw put_length inside)) at h in
      part_at size j (put size k ys xs) i h ∙ go i h (dec_lt j k) ∙ sym (part_at size j xs i h))
    where
      go : (i : ℕ) → i < size → Dec (j < k) → get_or (put size k ys xs) (j * size + i) 0 ≡ get_or xs (j * size + i) 0
      go i h (yes lt) = put_low (j * size + i) (omega (arith, before size lt))
      go i h (no ge) = let gt : k < j = omega arith in put_high (j * size + i) (omega (arith, before size gt))

-- two lists of n parts are equal where their parts are
pub parts_ext : (size n : ℕ) → 0 < size → (xs ys : List ℕ) → length xs ≡ n * size → length ys ≡ n * size
    → ((k : ℕ) → k < n → part size k xs ≡ part size k ys) → xs ≡ ys
parts_ext size n pos xs ys lx ly same =
    ext_get_or 0 xs ys (lx ∙ sym ly)
    (λ i h. let k : ℕ = i / size in
    let j : ℕ = i % size in
    let jh : j < size = mod-lt i pos in
    let kh : k < n = (div-lt_iff_lt-mul pos).1 (rw lx at h) in
    let e : i ≡ k * size + j = sym (div-add-mod' i size) in
    ap (λ (m : ℕ). get_or xs m 0) e
    ∙ sym (part_at size k xs j jh)
    ∙ ap (λ (l : List ℕ). get_or l j 0) (same k kh)
    ∙ part_at size k ys j jh
    ∙ ap (λ (m : ℕ). get_or ys m 0) (sym e))

-- what is lent of a list from place k * size on, size elements, is part k
pub part_lent : (size k : ℕ) (xs : List ℕ) → k * size + size ≤ length xs
    → (take (k * size + size - k * size) (drop (k * size) xs) ≡ part size k xs) × (length (take (k * size + size - k * size) (drop (k * size) xs)) ≡ size)
unfolding part
part_lent size k xs h =
    let e : k * size + size - k * size ≡ size = omega arith in
    (ap (λ (n : ℕ). take n (drop (k * size) xs)) e, simp (length-take, length-drop) (omega arith))

-- what is left of the list when that part comes back with another content is put
pub put_lent : (size k : ℕ) (ys xs : List ℕ) → take (k * size) xs ++ (ys ++ drop (k * size + size - k * size) (drop (k * size) xs)) ≡ put size k ys xs
unfolding put
put_lent size k ys xs =
    let e : k * size + size - k * size ≡ size = omega arith in
    ap (λ (n : ℕ). take (k * size) xs ++ (ys ++ drop n (drop (k * size) xs))) e

-- a part put back as it was
pub put_own : (size k : ℕ) (xs : List ℕ) → put size k (part size k xs) xs ≡ xs
unfolding part put
put_own size k xs =
    ap (λ (ys : List ℕ). take (k * size) xs ++ ys) (take-append-drop size (drop (k * size) xs)) ∙ take-append-drop (k * size) xs

-- a part of a list that repeats one element repeats it too
pub part_replicate : (size k n x : ℕ) → k * size + size ≤ n → part size k (replicate n x) ≡ replicate size x
part_replicate size k n x fits =
    let inside : k * size + size ≤ length (replicate n x) = rw (length-replicate n x) fits in
    let long : length (part size k (replicate n x)) ≡ size = part_length size k (replicate n x) inside in
    ext_get_or 0 _ _ (long ∙ sym (length-replicate size x))
    (λ i h. let h : i < size = rw long at h in
    part_at size k (replicate n x) i h ∙ get_or-replicate n (k * size + i) x 0 (omega arith) ∙ sym (get_or-replicate size i x 0 h))
