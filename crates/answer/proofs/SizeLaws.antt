-- How large the fields are of an answer that is read from a buffer.
-- Assumes nothing.
use Prim.Native.Nat.{ℕ, suc, ◌+◌, ◌^◌, ◌≤◌, ◌<◌}
use native.Mathlib.Numerals.{add-one}
use native.Mathlib.Decide.{dec_lt}
use native.Mathlib.Omega.{arith}
use mathlib.Core.Bool.{Bool, true, false, cond}
use mathlib.Core.List.{List, [], ◌∷◌}
use mathlib.Core.Path.{◌≡◌, refl, sym, subst}
use borrow.Author.Tests.{leb-true}
use lib.Count.{ones-le}
use lib.Dec.{leb, lit<}
use lib.ListN.{length, get_or, take, drop, length-take, length-drop, get_or-eq_default}
use lib.Seq.{get_or-take, get_or-drop, length-take-le}
use Rattle.text.specs.Number.{little_endian, number_at}
use Rattle.text.proofs.NumberLaws.{digit_more}
use Rattle.failures.specs.Failures.{failure_count}
use Rattle.answer.specs.declared.Answer.{Answer}
use Rattle.answer.specs.Answer.{answer_size, answer_at}

-- what a buffer holds
abbrev pub are_bytes : List ℕ → Type 0
are_bytes s = (k : ℕ) → get_or s k 0 < 256

-- a number of eight bytes
little_below : (w : List ℕ) → are_bytes w → little_endian w < 256 ^ length w
unfolding little_endian
little_below [] f = lit< tt
little_below (b ∷ w) f =
    rw (sym (add-one (length w)))
    (subst (λ (n : ℕ). n < 256 ^ (length w + 1)) (omega arith)
    (digit_more 256 (little_endian w) b (length w) (little_below w (λ k. f (suc k))) (f 0)))

part_bytes : (s : List ℕ) (at n : ℕ) → are_bytes s → are_bytes (take n (drop at s))
part_bytes s at n f k = go (dec_lt k n)
  where
    go : Dec (k < n) → get_or (take n (drop at s)) k 0 < 256
    go (yes h) = rw (get_or-take n (drop at s) k 0 h, get_or-drop at s k 0) (f (at + k))
    go (no h) = rw (get_or-eq_default (take n (drop at s)) 0 {n = k} (rw length-take (omega arith))) (lit< tt)

word_small : (s : List ℕ) (at : ℕ) → are_bytes s → number_at 8 at s < 2 ^ 64
unfolding number_at
word_small s at f = go (leb (at + 8) (length s)) refl
  where
    go : (b : Bool) → leb (at + 8) (length s) ≡ b → cond b (little_endian (take 8 (drop at s))) 0 < 2 ^ 64
    go true e =
        let room : at + 8 ≤ length s = leb-true _ _ e in
        subst (λ (n : ℕ). little_endian (take 8 (drop at s)) < 256 ^ n)
        (length-take-le 8 (drop at s) (rw length-drop (omega arith))) (little_below (take 8 (drop at s)) (part_bytes s at 8 f))
    go false e = lit< tt

either_small : (b : Bool) (x y : Answer) → (failure_count x.failed ≤ 64) × (x.row < 256) → (failure_count y.failed ≤ 64) × (y.row < 256)
    → (failure_count (cond b x y).failed ≤ 64) × ((cond b x y).row < 256)
either_small true x y h g = h
either_small false x y h g = g

-- an answer that is read counts at most 64 failures, and its row is a byte
pub answer_small : (s : List ℕ) (at : ℕ) → are_bytes s → (failure_count (answer_at at s).failed ≤ 64) × ((answer_at at s).row < 256)
unfolding answer_at
answer_small s at f = either_small (leb (at + answer_size) (length s)) _ _ (ones-le 64 _ (word_small s at f), f (at + 10)) (ones-le 64 0 (lit< tt), lit< tt)
