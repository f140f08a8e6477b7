-- Laws of refusals in their order: the one that applies first, none, and a number that never does; and of replies past a refusal.
-- Assumes nothing.
use Prim.Native.Nat.{ℕ}
use native.Mathlib.Omega.{arith}
use mathlib.Core.Path.{◌≡◌, refl, sym, ◌∙◌}
use mathlib.Core.Bool.{Bool, true, false, not, cond}
use mathlib.Core.List.{List, [], ◌∷◌}
use mathlib.Core.Logic.{◌≢◌}
use lib.Dec.{eqb}
use borrow.Author.Tests.{eqb-true, eqb-false, eq-eqb, ne_eqb, not-true, not-false}
use Rattle.frame.specs.Reply.{Reply, refused, accepted, refusal_in, map_reply, unless, first_of, past}

-- one refusal
pub unless_holds : {b : Bool} (n : ℕ) → b ≡ true → unless b n ≡ 0
unfolding unless
unless_holds n h = rw h

pub unless_fails : {b : Bool} (n : ℕ) → b ≡ false → n ≡ unless b n
unfolding unless
unless_fails n h = rw h

pub unless_none : (b : Bool) (n : ℕ) → n ≢ 0 → unless b n ≡ 0 → b ≡ true
unfolding unless
unless_none true n ne e = refl
unless_none false n ne e = absurd (ne e)

pub unless_never : (b : Bool) (n k : ℕ) → n ≢ k → 0 ≢ k → unless b n ≢ k
unfolding unless
unless_never true n k ne z e = z e
unless_never false n k ne z e = ne e

-- What a return of code says that goes through the refusals in their order: this one applies; it does not, and the others decide; none is left.
pub first_applies : {k n : ℕ} (ns : List ℕ) → k ≡ n → k ≢ 0 → k ≡ first_of (n ∷ ns)
unfolding first_of
first_applies {k} {n} ns e ne = let some : eqb n 0 ≡ false = ne_eqb n 0 (λ z. ne (e ∙ z)) in rw some e

pub first_passes : {k n : ℕ} (ns : List ℕ) → n ≡ 0 → k ≡ first_of ns → k ≡ first_of (n ∷ ns)
unfolding first_of
first_passes {k} {n} ns z e = let none : eqb n 0 ≡ true = eq-eqb n 0 z in rw none e

pub first_end : 0 ≡ first_of []
unfolding first_of
first_end = refl

-- the last of them decides alone
pub first_last : {k n : ℕ} → k ≡ n → k ≡ first_of (n ∷ [])
unfolding first_of
first_last {k} {n} e = e ∙ go (eqb n 0) refl
  where
    go : (b : Bool) → eqb n 0 ≡ b → n ≡ cond b 0 n
    go true z = eqb-true n 0 z
    go false z = refl

-- the same, of a refusal by a test r that the code makes
pub test_applies : {r b : Bool} (n : ℕ) (ns : List ℕ) → n ≢ 0 → r ≡ b → not r ≡ true → n ≡ first_of (unless b n ∷ ns)
test_applies {r} n ns ne e t = first_applies ns (unless_fails n (sym e ∙ not-true r t)) ne

pub test_passes : {k : ℕ} {r b : Bool} (n : ℕ) (ns : List ℕ) → r ≡ b → not r ≡ false → k ≡ first_of ns → k ≡ first_of (unless b n ∷ ns)
test_passes {r = r} n ns e t = first_passes ns (unless_holds n (sym e ∙ not-false r t))

-- where none applies, not the first, and none of the others
pub first_none : (n : ℕ) (ns : List ℕ) → first_of (n ∷ ns) ≡ 0 → (n ≡ 0) × (first_of ns ≡ 0)
unfolding first_of
first_none n ns = go (eqb n 0) refl
  where
    go : (b : Bool) → eqb n 0 ≡ b → cond b (first_of ns) n ≡ 0 → (n ≡ 0) × (first_of ns ≡ 0)
    go true e h = (eqb-true n 0 e, h)
    go false e h = absurd (eqb-false n 0 e h)

-- a number that none of them has
pub end_never : (k : ℕ) → 0 ≢ k → first_of [] ≢ k
unfolding first_of
end_never k z e = z e

pub first_never : (k n : ℕ) (ns : List ℕ) → n ≢ k → first_of ns ≢ k → first_of (n ∷ ns) ≢ k
unfolding first_of
first_never k n ns ne other = go (eqb n 0)
  where
    go : (b : Bool) → cond b (first_of ns) n ≢ k
    go true = other
    go false = ne

-- a reply past a refusal
module _ {A : Type 0} (n : ℕ) (w : Reply A) where
  pub past_refused : n ≢ 0 → past n w ≡ refused n
  unfolding past
  past_refused ne = rw (ne_eqb n 0 ne)

  pub past_none : n ≡ 0 → past n w ≡ w
  unfolding past
  past_none z = rw (eq-eqb n 0 z)

  pub past_accepted : (a : A) → past n w ≡ accepted a → (n ≡ 0) × (w ≡ accepted a)
  unfolding past
  past_accepted a = go (eqb n 0) refl
    where
      go : (b : Bool) → eqb n 0 ≡ b → cond b w (refused n) ≡ accepted a → (n ≡ 0) × (w ≡ accepted a)
      go true e h = (eqb-true n 0 e, h)
      go false e h = let z : ◌≡◌ {A = ℕ} 0 1 = cc in absurd (omega arith)

  pub past_never : (k : ℕ) → n ≢ k → refusal_in w ≢ k → refusal_in (past n w) ≢ k
  unfolding past
  past_never k ne other = go (eqb n 0)
    where
      go : (b : Bool) → refusal_in (cond b w (refused n)) ≢ k
      go true = other
      go false = ne

-- the same, of a refusal by a test
pub past_holds : {A : Type 0} {b : Bool} (n : ℕ) (w : Reply A) → b ≡ true → past (unless b n) w ≡ w
past_holds n w h = past_none _ w (unless_holds n h)

pub past_fails : {A : Type 0} {b : Bool} (n : ℕ) (w : Reply A) → n ≢ 0 → b ≡ false → past (unless b n) w ≡ refused n
unfolding unless
past_fails n w ne h = rw h (past_refused n w ne)

-- a reply that is refused, is so by a number that is not 0
abbrev pub Numbered : {A : Type 0} → Reply A → Type 0
Numbered w = (n : ℕ) → w ≡ refused n → n ≢ 0

pub accepted_numbered : {A : Type 0} (a : A) → Numbered (accepted a)
accepted_numbered a n e = let z : ◌≡◌ {A = ℕ} 0 1 = cc in absurd (omega arith)

pub past_numbered : {A : Type 0} (n : ℕ) (w : Reply A) → Numbered w → Numbered (past n w)
unfolding past
past_numbered n w h m = go (eqb n 0) refl
  where
    go : (b : Bool) → eqb n 0 ≡ b → cond b w (refused n) ≡ refused m → m ≢ 0
    go true e q = h m q
    go false e q = let same : n ≡ m = cc in λ z. eqb-false n 0 e (same ∙ z)

-- a reply with f of what it gives
pub map_refusal : {A B : Type 0} (f : A → B) (w : Reply A) → refusal_in (map_reply f w) ≡ refusal_in w
map_refusal f (refused n) = refl
map_refusal f (accepted a) = refl

pub map_numbered : {A B : Type 0} (f : A → B) (w : Reply A) → Numbered w → Numbered (map_reply f w)
map_numbered f (refused m) h n e = let same : m ≡ n = cc in λ z. h m refl (same ∙ z)
map_numbered f (accepted a) h n e = accepted_numbered (f a) n e
