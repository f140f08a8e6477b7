-- Laws of calls with an earlier answer, for any rules: they are lawful where the rules are; and a call whose earlier answer fits is the plain call.
-- Assumes nothing.
use Prim.Native.Nat.{ℕ}
use mathlib.Core.Path.{◌≡◌, refl, ap, sym, ◌∙◌}
use mathlib.Core.Bool.{Bool, true, false, false≢true}
use mathlib.Core.List.{List, [], ◌∷◌, map}
use mathlib.Core.Logic.{◌≢◌}
use lib.Dec.{eqb, ltb}
use borrow.Author.Tests.{eqb-true, eqb-false}
use Rattle.frame.specs.Reply.{Reply}
use Rattle.frame.specs.Isolation.{Rules, Lawful, Outcome, act, single, replies, store_after}
use Rattle.frame.specs.Earlier.{WithEarlier, earlier_refusal, with_earlier, AllFit}
use Rattle.frame.proofs.ReplyLaws.{unless_holds, unless_fails, unless_none, first_applies, first_passes, first_last, first_none}

module _ (R : Rules) (fits : R.Call → List ℕ → Bool) (number : ℕ) where
  open R use {Call, Answer, Store, banks, flaw, refusal, bank}

  pub earlier_lawful : Lawful R → Lawful (with_earlier R fits number)
  unfolding earlier_refusal
  earlier_lawful H = record {
    flaw_refuses = λ b n e. H.flaw_refuses b.call n (first_none _ _ e).0;
    step_in_order = λ b. H.step_in_order b.call;
    step_own = λ b. H.step_own b.call;
    step_other = λ b. H.step_other b.call;
    store_ext = H.store_ext;
  }

  module _ (b : WithEarlier Call) (n : ℕ) where
    -- a call that is refused by itself is refused by that number, whatever it comes with
    pub earlier_first : refusal b.call n ≢ 0 → refusal b.call n ≡ earlier_refusal R fits number b n
    unfolding earlier_refusal
    earlier_first ne = first_applies _ refl ne

    -- one that is not is refused by the number of an earlier answer that does not fit
    pub earlier_unfit : refusal b.call n ≡ 0 → fits b.call b.earlier ≡ false → number ≡ earlier_refusal R fits number b n
    unfolding earlier_refusal
    earlier_unfit z f = first_passes _ z (first_last (unless_fails number f))

    -- and where that fits, by none
    pub earlier_none : refusal b.call n ≡ 0 → fits b.call b.earlier ≡ true → 0 ≡ earlier_refusal R fits number b n
    unfolding earlier_refusal
    earlier_none z f = first_passes _ z (first_last (sym (unless_holds number f)))

    -- where it does not fit the call is refused, by either number
    pub earlier_refuses : number ≢ 0 → fits b.call b.earlier ≡ false → earlier_refusal R fits number b n ≢ 0
    unfolding earlier_refusal
    earlier_refuses ne f z = false≢true (sym f ∙ unless_none _ number ne (first_none _ [] (first_none _ _ z).1).0)

    -- so where it fits, or the call is refused anyway, the numbers are the same
    pub earlier_same : (refusal b.call n ≡ 0 → fits b.call b.earlier ≡ true) → earlier_refusal R fits number b n ≡ refusal b.call n
    earlier_same f = go (eqb (refusal b.call n) 0) refl
      where
        go : (x : Bool) → eqb (refusal b.call n) 0 ≡ x → earlier_refusal R fits number b n ≡ refusal b.call n
        go true e = let z : refusal b.call n ≡ 0 = eqb-true _ _ e in sym (earlier_none z (f z)) ∙ sym z
        go false e = sym (earlier_first (eqb-false _ _ e))

  -- such a call is the plain call: the same reply, the same store
  pub earlier_fits_lem : (b : WithEarlier Call) (s : Store) → (refusal b.call (flaw s) ≡ 0 → fits b.call b.earlier ≡ true)
      → single (with_earlier R fits number) b s ≡ single R b.call s
  unfolding single
  earlier_fits_lem b s f = rw (earlier_same b (flaw s) f) (same (refusal b.call (flaw s)) (eqb (refusal b.call (flaw s)) 0) (ltb (bank b.call) banks))
    where
      same : (n : ℕ) (x y : Bool) → act (with_earlier R fits number) b s n x y ≡ act R b.call s n x y
      same n true true = refl
      same n true false = refl
      same n false y = refl

  -- a list of calls whose earlier answers fit is the list of the plain calls
  pub fit_store : (bs : List (WithEarlier Call)) (s : Store) → AllFit R fits number bs
      → store_after (with_earlier R fits number) bs s ≡ store_after R (map (λ b. b.call) bs) s
  fit_store [] s h = refl
  fit_store (b ∷ bs) s h =
      fit_store bs _ h.1
      ∙ ap (λ (o : Outcome Answer Store). store_after R (map (λ c. c.call) bs) o.store) (earlier_fits_lem b s (h.0 (flaw s)))

  pub fit_replies : (bs : List (WithEarlier Call)) (s : Store) → AllFit R fits number bs
      → replies (with_earlier R fits number) bs s ≡ replies R (map (λ b. b.call) bs) s
  fit_replies [] s h = refl
  fit_replies (b ∷ bs) s h =
      let e : single (with_earlier R fits number) b s ≡ single R b.call s = earlier_fits_lem b s (h.0 (flaw s)) in
      ap (λ (ws : List (Reply Answer)). (single (with_earlier R fits number) b s).reply ∷ ws) (fit_replies bs _ h.1)
      ∙ ap (λ (o : Outcome Answer Store). o.reply ∷ replies R (map (λ c. c.call) bs) o.store) e
