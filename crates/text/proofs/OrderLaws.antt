-- Laws of the order of texts: it is a strict order.
-- Assumes nothing.
use Prim.Native.Nat.{ℕ, ◌<◌}
use mathlib.Core.Bool.{Bool, true, false, ◌&&◌, cond, false≢true}
use mathlib.Core.List.{List, [], ◌∷◌}
use mathlib.Core.Path.{◌≡◌, refl}
use native.Mathlib.Omega.{arith}
use borrow.Author.Tests.{lt-ltb, le-ltb, ltb-true, ltb-false, eq-eqb, ne_eqb}
use lib.Dec.{ltb, eqb}
use Rattle.frame.proofs.BoolLaws.{and_false}
use Rattle.std.specs.declared.cmp.Ordering.TheVariants.{Less, Equal, Greater}
use Rattle.text.specs.Bytes.{same}
use Rattle.text.specs.Order.{order_of, is_less, below}

-- a text is ordered the same as itself, and as no other
pub order_same : (s t : List ℕ) → order_of s t ≡ Equal → same s t ≡ true
unfolding order_of same
order_same [] [] e = refl
order_same [] (y ∷ t) e = let z : ◌≡◌ {A = ℕ} 0 1 = cc in absurd (omega arith)
order_same (x ∷ s) [] e = let z : ◌≡◌ {A = ℕ} 0 1 = cc in absurd (omega arith)
order_same (x ∷ s) (y ∷ t) e = go (ltb x y) (ltb y x) refl refl (order_same s t) e
  where
    go : (a b : Bool) → ltb x y ≡ a → ltb y x ≡ b → (order_of s t ≡ Equal → same s t ≡ true)
        → cond a Less (cond b Greater (order_of s t)) ≡ Equal → (eqb x y && same s t) ≡ true
    go true b p q f e = let z : ◌≡◌ {A = ℕ} 0 1 = cc in absurd (omega arith)
    go false true p q f e = let z : ◌≡◌ {A = ℕ} 0 1 = cc in absurd (omega arith)
    go false false p q f e =
        let d : x ≡ y = omega (arith, ltb-false x y p, ltb-false y x q) in
        rw (eq-eqb x y d, f e)

-- what is below another is another
pub order_differs : (s t : List ℕ) → (order_of s t ≡ Equal → ⊥) → same s t ≡ false
unfolding order_of same
order_differs [] [] n = absurd (n refl)
order_differs [] (y ∷ t) n = refl
order_differs (x ∷ s) [] n = refl
order_differs (x ∷ s) (y ∷ t) n = go (ltb x y) (ltb y x) refl refl (order_differs s t) n
  where
    go : (a b : Bool) → ltb x y ≡ a → ltb y x ≡ b → ((order_of s t ≡ Equal → ⊥) → same s t ≡ false)
        → (cond a Less (cond b Greater (order_of s t)) ≡ Equal → ⊥) → (eqb x y && same s t) ≡ false
    go true b p q f n = let d : x < y = ltb-true x y p in rw (ne_eqb x y (omega arith))
    go false true p q f n = let d : y < x = ltb-true y x q in rw (ne_eqb x y (omega arith))
    go false false p q f n = rw (f n, and_false)

-- turned round, less is greater
pub order_turned : (s t : List ℕ) → order_of s t ≡ Greater → below t s ≡ true
unfolding order_of
order_turned [] [] e = let z : ◌≡◌ {A = ℕ} 0 1 = cc in absurd (omega arith)
order_turned [] (y ∷ t) e = let z : ◌≡◌ {A = ℕ} 0 1 = cc in absurd (omega arith)
order_turned (x ∷ s) [] e = refl
order_turned (x ∷ s) (y ∷ t) e = go (ltb x y) (ltb y x) refl refl (order_turned s t) e
  where
    go : (a b : Bool) → ltb x y ≡ a → ltb y x ≡ b → (order_of s t ≡ Greater → below t s ≡ true) → cond a Less (cond b Greater (order_of s t)) ≡ Greater
        → is_less (cond (ltb y x) Less (cond (ltb x y) Greater (order_of t s))) ≡ true
    go true b p q f e = let z : ◌≡◌ {A = ℕ} 0 1 = cc in absurd (omega arith)
    go false true p q f e = rw q refl
    go false false p q f e = rw (p, q) (f e)

-- what is below what is below is below
pub below_trans : (s t u : List ℕ) → below s t ≡ true → below t u ≡ true → below s u ≡ true
unfolding order_of
below_trans [] [] u p q = absurd (false≢true p)
below_trans [] (y ∷ t) [] p q = absurd (false≢true q)
below_trans [] (y ∷ t) (z ∷ u) p q = refl
below_trans (x ∷ s) [] u p q = absurd (false≢true p)
below_trans (x ∷ s) (y ∷ t) [] p q = absurd (false≢true q)
below_trans (x ∷ s) (y ∷ t) (z ∷ u) p q = go (ltb x y) (ltb y x) (ltb y z) (ltb z y) refl refl refl refl (below_trans s t u) p q
  where
    go : (a b c d : Bool) → ltb x y ≡ a → ltb y x ≡ b → ltb y z ≡ c → ltb z y ≡ d → (below s t ≡ true → below t u ≡ true → below s u ≡ true)
        → is_less (cond a Less (cond b Greater (order_of s t))) ≡ true → is_less (cond c Less (cond d Greater (order_of t u))) ≡ true
        → is_less (cond (ltb x z) Less (cond (ltb z x) Greater (order_of s u))) ≡ true
    go true b true d xy yx yz zy f p q = let h : x < z = omega (arith, ltb-true x y xy, ltb-true y z yz) in rw (lt-ltb x z h) refl
    go true b false false xy yx yz zy f p q = let h : x < z = omega (arith, ltb-true x y xy, ltb-false z y zy, ltb-false y z yz) in rw (lt-ltb x z h) refl
    go true b false true xy yx yz zy f p q = absurd (false≢true q)
    go false true c d xy yx yz zy f p q = absurd (false≢true p)
    go false false true d xy yx yz zy f p q = let h : x < z = omega (arith, ltb-false y x yx, ltb-true y z yz) in rw (lt-ltb x z h) refl
    go false false false true xy yx yz zy f p q = absurd (false≢true q)
    go false false false false xy yx yz zy f p q =
        let h : ltb x z ≡ false = le-ltb x z (omega (arith, ltb-false x y xy, ltb-false y z yz)) in
        let k : ltb z x ≡ false = le-ltb z x (omega (arith, ltb-false y x yx, ltb-false z y zy)) in
        rw (h, k) (f p q)

-- nothing is below itself
pub below_itself : (s : List ℕ) → below s s ≡ false
unfolding order_of
below_itself [] = refl
below_itself (x ∷ s) = rw (le-ltb x x (omega arith)) (below_itself s)
