-- Laws of slots: a row whose slot is fresh has another number than the rows before it; and what the table of the slots seen knows.
-- Assumes nothing.
use Prim.Native.Nat.{ℕ, ◌+◌, ◌<◌}
use native.Mathlib.Decide.{ℕ_discrete}
use native.Mathlib.Omega.{arith}
use mathlib.Core.Bool.{Bool, true, false, ◌&&◌, not, false≢true}
use mathlib.Core.List.{List}
use mathlib.Core.Logic.{◌≢◌}
use mathlib.Core.Path.{◌≡◌, refl, ap, sym, ◌∙◌}
use borrow.Author.Tests.{eqb-true}
use lib.Dec.{eqb}
use lib.ListN.{length, get_or, set}
use lib.Seq.{get_or-set_same, get_or-set_other}
use Rattle.frame.specs.Every.{every}
use Rattle.frame.proofs.EveryLaws.{every_intro}
use Rattle.text.specs.Number.{number_at}
use Rattle.ledger.specs.Row.{number}
use Rattle.ledger.specs.Sound.{rows_of, compartment_size, precedes, FormAfterSound}
use Rattle.ledger.specs.Slots.{slot_of, Fresh}
use Rattle.ledger.proofs.CheckLaws.{precedes_words}

words_differ : (v w : List ℕ) → slot_of v ≢ slot_of w → eqb (number_at 8 10 v) (number_at 8 10 w) && eqb (number_at 8 2 v) (number_at 8 2 w) ≡ false
unfolding slot_of
words_differ v w n = go _ _ refl refl
  where
    go : (a b : Bool) → eqb (number_at 8 10 v) (number_at 8 10 w) ≡ a → eqb (number_at 8 2 v) (number_at 8 2 w) ≡ b → a && b ≡ false
    go true true p q = absurd (n (rw (eqb-true (number_at 8 10 v) (number_at 8 10 w) p, eqb-true (number_at 8 2 v) (number_at 8 2 w) q)))
    go true false p q = refl
    go false b p q = refl

pub fresh_new : (c : List ℕ) (k : ℕ) → length c ≡ compartment_size → FormAfterSound (rows_of c) k → Fresh (rows_of c) k
    → true ≡ every k (precedes (rows_of c) (number (rows_of c k)))
fresh_new c k l a f =
    sym (every_intro k _ (λ j m. precedes_words c k l a j m refl refl refl refl refl
    ∙ ap not (words_differ (rows_of c j) (rows_of c k) (f j m))))

-- the slots of the first k rows are marked
abbrev pub Marked : List Bool → List ℕ → ℕ → Type 0
Marked seen c k = (j : ℕ) → j < k → get_or seen (slot_of (rows_of c j)) false ≡ true

module _ (seen : List Bool) (c : List ℕ) (k : ℕ) (f : Marked seen c k) {h : ℕ} (e : h ≡ slot_of (rows_of c k)) where
  pub marked_fresh : get_or seen h false ≡ false → Fresh (rows_of c) k
  marked_fresh z j m q =
      let unmarked : get_or seen (slot_of (rows_of c j)) false ≡ false = rw (q, ← e) z in
      false≢true (sym unmarked ∙ f j m)

  pub marked_more : h < length seen → Marked (set seen h true) c (k + 1)
  marked_more b j m = go (ℕ_discrete (slot_of (rows_of c j)) h)
    where
      go : Dec (slot_of (rows_of c j) ≡ h) → get_or (set seen h true) (slot_of (rows_of c j)) false ≡ true
      go (yes q) = rw q (get_or-set_same seen h true false b)
      go (no n) = get_or-set_other seen h (slot_of (rows_of c j)) true false n ∙ f j (earlier (ℕ_discrete j k))
        where
          earlier : Dec (j ≡ k) → j < k
          earlier (yes d) = absurd (n (rw d (sym e)))
          earlier (no d) = omega arith
