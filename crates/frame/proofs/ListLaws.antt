-- What std says of a list, and its numbers: a test of each element, the first that passes, and a list as whole parts of one size.
-- Assumes nothing.
use Prim.Native.Nat.{ℕ, zero, suc, ◌+◌, ◌*◌, ◌/◌, ◌≤◌, ◌<◌}
use native.Mathlib.Nat.{not-suc-le-zero, suc-mul}
use native.Mathlib.Numerals.{add-one}
use native.Mathlib.Omega.{arith}
use mathlib.Core.Path.{◌≡◌, refl, ap, sym, ◌∙◌}
use mathlib.Core.Bool.{Bool, true, false, ◌&&◌, ◌||◌, not, cond}
use mathlib.Core.List.{List, [], ◌∷◌}
use lib.ListN.{length, get_or, take, drop}
use lib.Seq.{drop-drop}
use Rattle.std.specs.List.{fold, list_all, list_any, position_or_len}
use Rattle.std.specs.Simd.{first_chunks}
use Rattle.std.proofs.lemmas.List.Folds.{list_all_more}
use Rattle.frame.specs.Every.{every, least}
use Rattle.frame.proofs.BoolLaws.{and_true, and_assoc, or_false, or_assoc}
use Rattle.frame.specs.Parts.{part, AreParts}

-- a test of the first elements of a list is one of the numbers of their places
pub list_all_front : {A : Type 0} (p : A → Bool) (xs : List A) (d : A) (q : ℕ → Bool) → ((k : ℕ) → k < length xs → q k ≡ p (get_or xs k d))
    → (i : ℕ) → i ≤ length xs → list_all p (take i xs) ≡ every i q
unfolding every
list_all_front p xs d q same zero h = refl
list_all_front p xs d q same (suc i) h =
    let inside : i < length xs = omega arith in
    let more : list_all p (take (suc i) xs) ≡ (list_all p (take i xs) && p (get_or xs i d)) = rw (← add-one) (list_all_more p xs i d inside) in
    more ∙ rw (list_all_front p xs d q same i (omega arith), same i inside) refl

-- tests that are put together without an early end are those of the whole list
pub fold_all : {A : Type 0} (p : A → Bool) (b : Bool) (xs : List A) → fold (λ b x. b && p x) b xs ≡ (b && list_all p xs)
fold_all p b [] = sym (and_true b)
fold_all p b (x ∷ xs) = fold_all p (b && p x) xs ∙ sym (and_assoc b (p x) (list_all p xs))

pub fold_any : {A : Type 0} (p : A → Bool) (b : Bool) (xs : List A) → fold (λ b x. b || p x) b xs ≡ (b || list_any p xs)
fold_any p b [] = sym (or_false b)
fold_any p b (x ∷ xs) = fold_any p (b || p x) xs ∙ sym (or_assoc b (p x) (list_any p xs))

-- where the first element stands that passes a test, the first number passes
pub position_least : {A : Type 0} (p : A → Bool) (xs : List A) (d : A) (q : ℕ → Bool) → ((k : ℕ) → k < length xs → q k ≡ p (get_or xs k d))
    → position_or_len p xs ≡ least (length xs) q
unfolding least
position_least p [] d q same = refl
position_least p (x ∷ xs) d q same =
    let first : q zero ≡ p x = same zero (omega arith) in
    let others = position_least p xs d (λ k. q (suc k)) (λ k h. same (suc k) (omega arith)) in
    rw (first, ← others) (go (p x))
  where
    go : (b : Bool) → cond (not b) (1 + position_or_len p xs) 0 ≡ cond b 0 (suc (position_or_len p xs))
    go true = refl
    go false = omega arith

-- the whole parts that std cuts a list into
pub chunk_part : (size n : ℕ) (xs : List ℕ) (k : ℕ) (d : List ℕ) → k < n → get_or (first_chunks size n xs) k d ≡ part size k xs
unfolding part
chunk_part size zero xs k d h = absurd (not-suc-le-zero h)
chunk_part size (suc n) xs zero d h = let none : 0 * size ≡ 0 = omega arith in rw none refl
chunk_part size (suc n) xs (suc k) d h =
    chunk_part size n (drop size xs) k d (omega arith)
    ∙ ap (take size) (drop-drop (k * size) size xs ∙ ap (λ m. drop m xs) (omega (arith, suc-mul k size)))

chunk_count : (size n : ℕ) (xs : List ℕ) → length (first_chunks size n xs) ≡ n
chunk_count size zero xs = refl
chunk_count size (suc n) xs = ap suc (chunk_count size n (drop size xs))

pub chunks_parts : (size : ℕ) (xs : List ℕ) → AreParts size xs (first_chunks size (length xs / size) xs)
chunks_parts size xs =
    let n = length xs / size in
    record { count = chunk_count size n xs; each = λ k d h. chunk_part size n xs k d (omega (arith, chunk_count size n xs)) }
