-- Laws of addresses that are compared once completed: what the comparison in place answers for each pair of lengths.
-- Assumes nothing.
use Prim.Native.Nat.{ℕ, ◌≤◌}
use mathlib.Core.Bool.{Bool, true, false, ◌&&◌}
use mathlib.Core.List.{List, ◌++◌}
use mathlib.Core.Path.{◌≡◌, refl, sym, ◌∙◌}
use native.Mathlib.Omega.{arith}
use borrow.Author.Tests.{eqb-true, eqb-false, eq-eqb, ne_eqb}
use lib.Dec.{eqb}
use lib.ListN.{length, take, drop, length-append}
use lib.Seq.{take_at, drop_at}
use Rattle.frame.proofs.BoolLaws.{and_true}
use Rattle.text.specs.Bytes.{same}
use Rattle.text.specs.Text.{bytes}
use Rattle.text.proofs.SameLaws.{eq_same}
use Rattle.text.proofs.ByteLaws.{same_refl, same_sym, same_split, same_apart}
use Rattle.identifier.specs.Identifier.{completed, same_address}

-- lists of one length with the same list added to both
same_added : (a s t : List ℕ) → length s ≡ length t → same s t ≡ same (s ++ a) (t ++ a)
same_added a s t l =
    let h : length s ≤ length (t ++ a) = rw length-append (omega arith) in
    let e = same_split s a (t ++ a) h in
    sym (and_true (same s t)) ∙ rw (take_at t a (length s) (sym l), drop_at t a (length s) (sym l), same_refl) at e

-- whether t is s with XXX added, by its length and by its parts
module _ (s t : List ℕ) (l : length s ≡ 8) where
  pub completion_parts : {a b : Bool} → length t ≡ 11 → a ≡ same s (take 8 t) → b ≡ same (bytes "XXX") (drop 8 t)
      → a && b ≡ same (s ++ bytes "XXX") t
  completion_parts m p q = let h : length s ≤ length t = omega arith in rw (p, q, ← l, same_split s (bytes "XXX") t) refl

  pub completion_length : (length t ≡ 11 → ⊥) → false ≡ same (s ++ bytes "XXX") t
  completion_length n = same_apart length _ _ (λ e. n (sym e ∙ length-append s (bytes "XXX") ∙ rw l refl))

completed_short : (s : List ℕ) → length s ≡ 8 → completed s ≡ s ++ bytes "XXX"
unfolding completed
completed_short s l = rw (eq-eqb _ _ l) refl

completed_other : (s : List ℕ) → (length s ≡ 8 → ⊥) → completed s ≡ s
unfolding completed
completed_other s n = rw (ne_eqb _ _ n) refl

module _ (s t : List ℕ) where
  pub address_equal_lengths : length s ≡ length t → same s t ≡ same_address s t
  unfolding same_address
  address_equal_lengths l = of (eqb (length s) 8) refl
    where
      of : (b : Bool) → eqb (length s) 8 ≡ b → same s t ≡ same (completed s) (completed t)
      of true e =
          let k : length s ≡ 8 = eqb-true _ _ e in
          rw (completed_short s k, completed_short t (sym l ∙ k)) (same_added (bytes "XXX") s t l)
      of false e =
          let n = eqb-false _ _ e in
          rw (completed_other s n, completed_other t (λ k. n (l ∙ k))) refl

  pub address_first_short : (length s ≡ length t → ⊥) → length s ≡ 8 → same (s ++ bytes "XXX") t ≡ same_address s t
  unfolding same_address
  address_first_short n k = rw (completed_short s k, completed_other t (λ m. n (k ∙ sym m))) refl

  pub address_second_short : (length s ≡ 8 → ⊥) → length t ≡ 8 → same (t ++ bytes "XXX") s ≡ same_address s t
  unfolding same_address
  address_second_short n k = rw (completed_other s n, completed_short t k) (same_sym _ _)

  pub address_none_short : (length s ≡ length t → ⊥) → (length s ≡ 8 → ⊥) → (length t ≡ 8 → ⊥) → false ≡ same_address s t
  unfolding same_address
  address_none_short n m k = rw (completed_other s m, completed_other t k) (same_apart length s t n)

-- what the proofs of the functions cite
pub ruleset completion_laws = (eq_same, same_sym, completion_parts, completion_length)

pub ruleset address_laws = (eq_same, address_equal_lengths, address_first_short, address_second_short, address_none_short)
