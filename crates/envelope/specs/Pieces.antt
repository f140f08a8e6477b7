-- The two kinds of piece that an envelope is made of, read at a place of a file: a fixed text, and a part of a class of bytes.
-- Assumes nothing.
use Rattle.std.specs.Prelude.{ℕ, suc, ◌+◌, ◌-◌, Bool, true, false, ◌&&◌, cond, List, [], ◌∷◌, leb, eqb, length, take, drop, Option, Some, None}
use Rattle.text.specs.declared.Class.{Class}
use Rattle.text.specs.Class.{belongs_to}

-- the bytes from a place up to another
abbrev pub between : List ℕ → ℕ → ℕ → List ℕ
between s a e = take (e - a) (drop a s)

-- how many bytes of a class stand at the front
unfoldable pub run_of : Class → List ℕ → ℕ
run_of k [] = 0
run_of k (b ∷ s) = cond (belongs_to k b) (suc (run_of k s)) 0

-- the list begins with the text
unfoldable pub begins : List ℕ → List ℕ → Bool
begins [] s = true
begins (a ∷ t) [] = false
begins (a ∷ t) (b ∷ s) = eqb b a && begins t s

-- a fixed text at a place of s: where it ends
unfoldable pub text_end : List ℕ → ℕ → List ℕ → Option ℕ
text_end s at t = cond (begins t (drop at s)) (Some (at + length t)) None

-- a part of lo to hi bytes of a class at a place of s: all bytes of the class that stand there
unfoldable pub part_end : List ℕ → ℕ → Class → ℕ → ℕ → Option ℕ
part_end s at k lo hi =
    let n = run_of k (drop at s) in cond (leb lo n && leb n hi) (Some (at + n)) None

-- what follows from what was found; the other where there is none
abbrev pub on : {A B : Type 0} → Option A → B → (A → B) → B
on (Some a) none f = f a
on None none f = none

-- such a part, and the fixed text that ends it
unfoldable pub part_then : List ℕ → ℕ → Class → ℕ → ℕ → List ℕ → Option ℕ
part_then s at k lo hi t = on (part_end s at k lo hi) None (λ e. text_end s e t)
