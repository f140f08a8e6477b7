-- Laws of the look-ups: what a search through the rows of a compartment knows and finds, by the last byte of a number too.
-- Assumes nothing.
use Prim.Native.Nat.{ℕ, ◌+◌, ◌-◌, ◌≤◌, ◌<◌, zero-le}
use native.Mathlib.Decide.{ℕ_discrete, dec_lt}
use native.Mathlib.Omega.{arith}
use mathlib.Core.Bool.{Bool, true, false, ◌&&◌}
use mathlib.Core.List.{List}
use mathlib.Core.Path.{◌≡◌, refl, ap, sym, ◌∙◌}
use borrow.Author.Tests.{eq-eqb, ne_eqb, eqb-false}
use lib.Dec.{eqb}
use lib.ListN.{length, get_or, drop, length-take}
use lib.Seq.{get_or-take, get_or-drop}
use Rattle.frame.proofs.BoolLaws.{and_false}
use Rattle.frame.specs.Every.{least}
use Rattle.frame.proofs.LeastLaws.{least_is, least_none}
use Rattle.text.proofs.ByteLaws.{same_true}
use Rattle.ledger.specs.Row.{number, number_length}
use Rattle.ledger.specs.Sound.{Rows, row_count, compartment_size}
use Rattle.ledger.specs.Lookup.{NoneIn, FirstFrom, is_named, first_row}

-- what a search from a row on knows after a row more that doesn't pass
module _ (p : ℕ → Bool) (from : ℕ) where
  pub none_more : (k : ℕ) → NoneIn p from k → p k ≡ false → NoneIn p from (k + 1)
  none_more k f e j g h = go (ℕ_discrete j k)
    where
      go : Dec (j ≡ k) → p j ≡ false
      go (yes q) = rw q e
      go (no n) = f j g (omega arith)

-- a search for rows that pass two tests skips those that fail the second: at its start, and after a row more that fails one of the two
module _ (a p : ℕ → Bool) where
  pub none_both : (from to : ℕ) → NoneIn p from to → NoneIn (λ j. a j && p j) from to
  none_both from to f j g h = rw (f j g h) (and_false (a j))

  pub none_on : (k to : ℕ) → NoneIn (λ j. a j && p j) 0 k → a k && p k ≡ false → NoneIn p (k + 1) to → NoneIn (λ j. a j && p j) 0 to
  none_on k to f e t j g h = go (dec_lt j (k + 1))
    where
      go : Dec (j < k + 1) → a j && p j ≡ false
      go (yes l) = none_more (λ i. a i && p i) 0 k f e j g l
      go (no n) = none_both (k + 1) to t j (omega arith) h

-- what it has found in the end
module _ (p : ℕ → Bool) where
  pub row_found : (k : ℕ) → k < row_count → NoneIn p 0 k → p k ≡ true → k ≡ least row_count p
  row_found k h f e = sym (least_is row_count p k h (λ j m. f j zero-le m) e)

  pub row_missing : (k : ℕ) → row_count ≤ k → NoneIn p 0 k → row_count ≡ least row_count p
  row_missing k h f = sym (least_none row_count p (λ j m. f j zero-le (omega arith)))

  pub row_first : (k : ℕ) → FirstFrom p 0 k → k ≡ least row_count p
  row_first k f = go (dec_lt k row_count)
    where
      go : Dec (k < row_count) → k ≡ least row_count p
      go (yes h) = row_found k h f.none (f.hit h)
      go (no n) = let last : k ≡ row_count = omega (arith, n, f.within) in last ∙ row_missing k (omega arith) f.none

-- where a compartment has its length, and where it has not
pub row_in_length : (c : List ℕ) (p : ℕ → Bool) → length c ≡ compartment_size → least row_count p ≡ first_row c p
row_in_length c p l = rw (eq-eqb _ _ l) refl

pub row_of_none : (c : List ℕ) (p : ℕ → Bool) → (length c ≡ compartment_size → ⊥) → row_count ≡ first_row c p
row_of_none c p n = rw (ne_eqb _ _ n)

-- the last byte of a row's number stands behind its length
number_end : (w n : List ℕ) → number w ≡ n → 0 < length n → get_or w (length n + 1) 0 ≡ get_or n (length n - 1) 0
number_end w n e h =
    let last = length n - 1 in
    let inside : last < number_length w = omega (arith, ap length e, length-take (number_length w) (drop 2 w)) in
    let place : 2 + last ≡ length n + 1 = omega arith in
    sym (ap (λ (l : List ℕ). get_or l last 0) (sym e) ∙ get_or-take (number_length w) (drop 2 w) last 0 inside ∙ get_or-drop 2 w last 0
    ∙ ap (λ (i : ℕ). get_or w i 0) place)

-- rows in which the last byte of n doesn't stand there have other numbers
pub none_ending : (ρ : Rows) (n : List ℕ) (from to : ℕ) → 0 < length n
    → NoneIn (λ j. eqb (get_or (ρ j) (length n + 1) 0) (get_or n (length n - 1) 0)) from to → NoneIn (is_named ρ n) from to
none_ending ρ n from to h f j g l = go (is_named ρ n j) refl
  where
    go : (b : Bool) → is_named ρ n j ≡ b → b ≡ false
    go true e = absurd (eqb-false _ _ (f j g l) (number_end (ρ j) n (same_true (number (ρ j)) n e) h))
    go false e = refl
