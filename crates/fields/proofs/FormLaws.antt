-- Laws of a field's one letter.
-- Assumes nothing.
use Prim.Native.Nat.{ℕ}
use mathlib.Core.List.{List, [], ◌∷◌}
use mathlib.Core.Path.{◌≡◌, refl}
use native.Mathlib.Omega.{arith}
use lib.ListN.{length, get_or}
use Rattle.fields.specs.Forms.{letter}

pub letter_one : (s : List ℕ) → length s ≡ 1 → get_or s 0 0 ≡ letter s
unfolding letter
letter_one [] e = refl
letter_one (x ∷ []) e = refl
letter_one (x ∷ y ∷ ys) e = absurd (omega arith)

pub letter_other : (s : List ℕ) → (length s ≡ 1 → ⊥) → 0 ≡ letter s
unfolding letter
letter_other [] n = refl
letter_other (x ∷ []) n = absurd (n refl)
letter_other (x ∷ y ∷ ys) n = refl
