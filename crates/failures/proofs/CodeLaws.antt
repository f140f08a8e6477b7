-- The rule of the table of codes, proved by one test that is computed over it.
-- Assumes nothing.
use Prim.Native.Nat.{ℕ, ◌≤◌, ◌<◌}
use native.Mathlib.Decide.{dec_lt}
use native.Mathlib.Omega.{arith}
use mathlib.Core.Bool.{Bool, true, false, ◌&&◌, not, false≢true}
use mathlib.Core.Logic.{◌≢◌}
use mathlib.Core.Path.{◌≡◌, refl, ap, sym, ◌∙◌}
use borrow.Author.Tests.{ltb-true, leb-true, ne_eqb}
use lib.Dec.{eqb, leb, ltb, lit≤}
use lib.ListN.{get_or-eq_default}
use Rattle.std.specs.List.{list_all}
use Rattle.frame.specs.Every.{every}
use Rattle.frame.proofs.ListLaws.{list_all_front}
use Rattle.frame.proofs.BoolLaws.{and_left, and_right, and_intro}
use Rattle.frame.proofs.EveryLaws.{every_at, every_intro}
use Rattle.failures.specs.Codes.{codes, code_at, is_no_code}

four_digits : ℕ → Bool
four_digits k = ltb 0 (code_at k) && leb (code_at k) 9999

tested : (k : ℕ) → k < 64 → four_digits k ≡ true
unfolding every four_digits code_at codes
tested = every_at 64 four_digits refl

-- a place has a code, of four digits
pub code_some : (k : ℕ) → k < 64 → 0 < code_at k
unfolding four_digits
code_some k h = ltb-true _ _ (and_left _ _ (tested k h))

pub code_digits : (k : ℕ) → k < 64 → code_at k ≤ 9999
unfolding four_digits
code_digits k h = leb-true _ _ (and_right (ltb 0 (code_at k)) _ (tested k h))

-- where there is no place, none failed: the code is 0
pub code_none : (k : ℕ) → 64 ≤ k → code_at k ≡ 0
unfolding code_at codes
code_none k h = get_or-eq_default codes 0 h

-- a code that is not 0 is none where no code of the table is the same
pub unlike_codes : (code : ℕ) → code ≢ 0 → list_all (λ c. not (eqb c code)) codes ≡ is_no_code code
unfolding is_no_code code_at codes
unlike_codes code some =
    let each = list_all_front (λ c. not (eqb c code)) codes 0 (λ k. not (eqb (code_at k) code)) (λ k h. refl) 64 (lit≤ tt) in
    each ∙ rw (ne_eqb code 0 some) refl

-- what an answer may have as its code: 0, or four digits
pub code_known : (code : ℕ) → is_no_code code ≡ false → code ≤ 9999
unfolding is_no_code
code_known code e = go (dec_lt 9999 code)
  where
    far : 9999 < code → (k : ℕ) → k < 64 → not (eqb (code_at k) code) ≡ true
    far h k l = ap not (ne_eqb (code_at k) code (λ z. omega (arith, z, code_digits k l)))

    go : Dec (9999 < code) → code ≤ 9999
    go (yes h) =
        let some : not (eqb code 0) ≡ true = ap not (ne_eqb code 0 (λ z. omega (arith, z))) in
        absurd (false≢true (sym e ∙ and_intro _ _ some (every_intro 64 (λ k. not (eqb (code_at k) code)) (far h))))
    go (no h) = omega (arith, h)
