-- Laws of field 33: what fails of its cases is what document 01 says of its bytes.
-- Assumes nothing.
use Prim.Native.Nat.{ℕ}
use Prim.Native.Char.{code}
use mathlib.Core.Bool.{Bool, true, false, not, cond, ◌&&◌, ◌||◌}
use mathlib.Core.List.{List, [], ◌∷◌}
use mathlib.Core.Path.{◌≡◌, refl}
use borrow.Author.Tests.{eqb-true}
use lib.Dec.{eqb}
use lib.ListN.{get_or}
use Rattle.frame.proofs.BoolLaws.{and_false, and_true}
use Rattle.text.specs.Bytes.{same}
use Rattle.fields.specs.Forms.{letter, starts}
use Rattle.underlying.specs.declared.Theme.TheVariants.{Basket, Commodity, Metal, NonMetal, Interest, Currency}
use Rattle.underlying.specs.declared.Underlying.{Underlying}
use Rattle.underlying.specs.declared.Underlying.TheVariants.{Missing, Isin, Eurex, Otob, Foreign, Themed, Unlisted, Unknown}
use Rattle.underlying.specs.declared.Derivative.{Derivative}
use Rattle.underlying.specs.Underlying.{asks_underlying, is_missing, is_theme, present_tests, underlying_tests}
use Rattle.underlying.specs.Cases.{theme_word, first_theme, theme_of, present_of, underlying_of, first_letter, is_lacking, tests_beside, tests_of}

-- T with a text: place 55 fails where it is none of the six words
theme_tests : (naming : ℕ) (word : List ℕ)
    → tests_beside naming (theme_of word)
    ≡ false ∷ false ∷ eqb naming (code "E") ∷ not (is_theme word) ∷ false ∷ eqb naming (code "O") ∷ false ∷ []
unfolding first_theme is_theme
theme_tests naming word =
    of (same word (theme_word Basket)) (same word (theme_word Commodity)) (same word (theme_word Metal))
    (same word (theme_word NonMetal)) (same word (theme_word Interest)) (same word (theme_word Currency))
  where
    of : (a b c d e f : Bool)
        → tests_beside naming
        (cond a (Themed Basket) (cond b (Themed Commodity) (cond c (Themed Metal)
        (cond d (Themed NonMetal) (cond e (Themed Interest) (cond f (Themed Currency) Unlisted))))))
        ≡ false ∷ false ∷ eqb naming (code "E") ∷ not (a || b || c || d || e || f) ∷ false ∷ eqb naming (code "O") ∷ false ∷ []
    of true b c d e f = refl
    of false true c d e f = refl
    of false false true d e f = refl
    of false false false true e f = refl
    of false false false false true f = refl
    of false false false false false true = refl
    of false false false false false false = refl

module _ (f33 : List ℕ) where
  pub missing_case : is_missing f33 ≡ true → Missing ≡ underlying_of f33
  unfolding underlying_of
  missing_case h = rw h refl

  pub present_case : is_missing f33 ≡ false → present_of f33 ≡ underlying_of f33
  unfolding underlying_of
  present_case h = rw h refl

-- the tests by first letter and what follows it, case by case
pub letter_tests : (n k : ℕ) (lacking : Bool) (d : Derivative) → n ≡ d.naming → k ≡ first_letter d.underlying → lacking ≡ is_lacking d.underlying
    → eqb k 0
    ∷ (eqb k (code "S") && lacking)
    ∷ (eqb n (code "E") && (eqb k (code "O") || eqb k (code "A") || eqb k (code "T")))
    ∷ (eqb k (code "T") && lacking)
    ∷ eqb k (code "?")
    ∷ (eqb n (code "O") && (eqb k (code "E") || eqb k (code "A") || eqb k (code "T")))
    ∷ ((eqb k (code "E") || eqb k (code "O") || eqb k (code "A")) && lacking)
    ∷ []
    ≡ tests_of d
unfolding tests_of
letter_tests n k lacking d p q r = rw (p, q, r) (of d.naming d.underlying)
  where
    of : (n : ℕ) (u : Underlying)
        → eqb (first_letter u) 0
        ∷ (eqb (first_letter u) (code "S") && is_lacking u)
        ∷ (eqb n (code "E") && (eqb (first_letter u) (code "O") || eqb (first_letter u) (code "A") || eqb (first_letter u) (code "T")))
        ∷ (eqb (first_letter u) (code "T") && is_lacking u)
        ∷ eqb (first_letter u) (code "?")
        ∷ (eqb n (code "O") && (eqb (first_letter u) (code "E") || eqb (first_letter u) (code "A") || eqb (first_letter u) (code "T")))
        ∷ ((eqb (first_letter u) (code "E") || eqb (first_letter u) (code "O") || eqb (first_letter u) (code "A")) && is_lacking u)
        ∷ []
        ≡ tests_beside n u
    of n Missing = simp (and_false, and_true)
    of n (Isin valid) = simp (and_false, and_true)
    of n (Eurex alone) = simp (and_false, and_true)
    of n (Otob alone) = simp (and_false, and_true)
    of n (Foreign alone) = simp (and_false, and_true)
    of n (Themed theme) = simp (and_false, and_true)
    of n Unlisted = simp (and_false, and_true)
    of n Unknown = simp (and_false, and_true)

-- a field that begins with one letter begins with none of the others
present_tests_lem : (f19 f33 : List ℕ) → tests_beside (letter f19) (present_of f33) ≡ false ∷ present_tests f19 f33
unfolding present_of present_tests
present_tests_lem f19 f33 =
    of (starts f33 "S") (starts f33 "E") (starts f33 "O") (starts f33 "A") (starts f33 "T") refl refl refl refl refl
  where
    of : (s e o a t : Bool)
        → starts f33 "S" ≡ s → starts f33 "E" ≡ e → starts f33 "O" ≡ o → starts f33 "A" ≡ a → starts f33 "T" ≡ t
        → tests_beside (letter f19) (present_of f33) ≡ false ∷ present_tests f19 f33
    of true e o a t p _ _ _ _ = simp (eqb-true (get_or f33 0 0) (code "S") p, and_false)
    of false true o a t _ p _ _ _ = simp (eqb-true (get_or f33 0 0) (code "E") p, and_false, and_true)
    of false false true a t _ _ p _ _ = simp (eqb-true (get_or f33 0 0) (code "O") p, and_false, and_true)
    of false false false true t _ _ _ p _ = simp (eqb-true (get_or f33 0 0) (code "A") p, and_true)
    of false false false false true _ _ _ _ p = simp (eqb-true (get_or f33 0 0) (code "T") p, and_true, theme_tests)
    of false false false false false ps pe po pa pt = simp (ps, pe, po, pa, pt, and_false)

module _ (f19 f21 f33 : List ℕ) where
  pub asked_tests : asks_underlying f21 ≡ true
      → tests_of (record { naming = letter f19; underlying = underlying_of f33 }) ≡ underlying_tests f19 f21 f33
  unfolding tests_of underlying_tests
  asked_tests asked = of (is_missing f33) refl
    where
      of : (missing : Bool) → is_missing f33 ≡ missing → tests_beside (letter f19) (underlying_of f33) ≡ underlying_tests f19 f21 f33
      of true p = rw (asked, p, ← missing_case f33 p) refl
      of false p = rw (asked, p, ← present_case f33 p) (present_tests_lem f19 f33)

  pub unasked_tests : asks_underlying f21 ≡ false
      → false ∷ false ∷ false ∷ false ∷ false ∷ false ∷ false ∷ [] ≡ underlying_tests f19 f21 f33
  unfolding underlying_tests
  unasked_tests unasked = rw unasked refl
