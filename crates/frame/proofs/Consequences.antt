-- What follows from isolation for any lawful rules: which calls do not look at the store, what a bank's results depend on, which calls commute.
-- Assumes nothing.
use Prim.Native.Nat.{ℕ, ◌≤◌, ◌<◌}
use mathlib.Core.Path.{◌≡◌, refl, ap, sym, ◌∙◌}
use mathlib.Core.Bool.{Bool, true, false, cond}
use mathlib.Core.List.{List, [], ◌∷◌, ◌++◌}
use mathlib.Core.Logic.{◌≢◌}
use native.Mathlib.Omega.{arith}
use lib.Dec.{eqb, ltb}
use borrow.Author.Tests.{eqb-true, eqb-false, ltb-true, ltb-false}
use Rattle.frame.specs.Reply.{refused, accepted, map_reply, past}
use Rattle.frame.specs.Isolation.{Rules, Lawful, Outcome, act, single, replies, store_after, answers_for}
use Rattle.frame.specs.Isolation.{is_step, steps, lone_answers, lone_state}
use Rattle.frame.proofs.BoolLaws.{and_right}
use Rattle.frame.proofs.Isolation.{isolation, after_in_order, single_refused, single_stranger, single_step}

-- what a call comes to by its number: answered where that is 0; else refused by it, and the store stays
pub record Decided {A S : Type 0} (number : ℕ) (o : Outcome A S) (s : S) : Type 0 where
  pub answers : number ≡ 0 → (a : A) × (o.reply ≡ accepted a)
  pub refuses : number ≢ 0 → o ≡ record { reply = refused number; store = s }

module _ (R : Rules) where
  open R use {Call, Answer, Store, banks, own, flaw, refusal, bank, judge}

  pub single_decided : (c : Call) (s : Store) → Decided (refusal c (flaw s)) (single R c s) s
  single_decided c s = record { answers = answered; refuses = single_refused R c s (refusal c (flaw s)) refl }
    where
      answered : refusal c (flaw s) ≡ 0 → (a : Answer) × ((single R c s).reply ≡ accepted a)
      answered e = go (ltb (bank c) banks) refl
        where
          go : (b : Bool) → ltb (bank c) banks ≡ b → (a : Answer) × ((single R c s).reply ≡ accepted a)
          go true h = (_, ap (λ (o : Outcome Answer Store). o.reply) (single_step R c s _ e refl (ltb-true _ _ h)))
          go false h = (_, ap (λ (o : Outcome Answer Store). o.reply) (single_stranger R c s e (ltb-false _ _ h)))

  -- two stores in order whose parts give the bank of a call the same answer give it the same reply
  pub same_reply : (c : Call) (s t : Store) → flaw s ≡ 0 → flaw t ≡ 0 → (bank c < banks → judge c (own (bank c) s) ≡ judge c (own (bank c) t))
      → (single R c s).reply ≡ (single R c t).reply
  unfolding single
  same_reply c s t h k alike = rw (h, k) (go (refusal c 0) (eqb (refusal c 0) 0) (ltb (bank c) banks) refl)
    where
      go : (n : ℕ) (f b : Bool) → ltb (bank c) banks ≡ b → (act R c s n f b).reply ≡ (act R c t n f b).reply
      go n true true e = ap accepted (alike (ltb-true _ _ e))
      go n true false e = refl
      go n false b e = refl

  -- a call whose record passes for no bank is answered alike on any two of them
  pub stranger_blind : (c : Call) (s t : Store) → flaw s ≡ 0 → flaw t ≡ 0 → banks ≤ bank c → (single R c s).reply ≡ (single R c t).reply
  stranger_blind c s t h k none = same_reply c s t h k (λ inside. absurd (omega arith))

  -- how many answers it gives is decided by its number alone
  pub answered_once : (c : Call) (s : Store) → map_reply {B = ℕ} (λ a. 1) (single R c s).reply ≡ past (refusal c (flaw s)) (accepted 1)
  unfolding past
  answered_once c s = go (eqb (refusal c (flaw s)) 0) refl
    where
      go : (b : Bool) → eqb (refusal c (flaw s)) 0 ≡ b
          → map_reply {B = ℕ} (λ a. 1) (single R c s).reply ≡ cond b (accepted 1) (refused (refusal c (flaw s)))
      go true e = rw ((single_decided c s).answers (eqb-true _ _ e)).1
      go false e = rw ((single_decided c s).refuses (eqb-false _ _ e))

  -- two lists in a row: what they leave and answer
  pub after_append : (bs cs : List Call) (s : Store) → store_after R (bs ++ cs) s ≡ store_after R cs (store_after R bs s)
  after_append [] cs s = refl
  after_append (b ∷ bs) cs s = after_append bs cs _

  pub replies_append : (bs cs : List Call) (s : Store) → replies R (bs ++ cs) s ≡ replies R bs s ++ replies R cs (store_after R bs s)
  replies_append [] cs s = refl
  replies_append (b ∷ bs) cs s = rw (replies_append bs cs (single R b s).store)

module _ (R : Rules) (H : Lawful R) where
  open R use {Call, Store, banks, own, flaw, refusal, bank}

  -- a bank's answers and its part depend on no other bank's part
  module _ (cs : List Call) (s t : Store) (h : flaw s ≡ 0) (k : flaw t ≡ 0) (r : ℕ) (rh : r < banks) (agree : own r s ≡ own r t) where
    pub own_answers : answers_for R r cs s ≡ answers_for R r cs t
    own_answers =
        (isolation R H cs s h).answers r rh ∙ ap (lone_answers R (steps R r cs)) agree ∙ sym ((isolation R H cs t k).answers r rh)

    pub own_state : own r (store_after R cs s) ≡ own r (store_after R cs t)
    own_state =
        (isolation R H cs s h).states r rh ∙ ap (lone_state R (steps R r cs)) agree ∙ sym ((isolation R H cs t k).states r rh)

  -- calls of two banks leave the same store in either order
  step_swap : (r : ℕ) (c d : Call) → bank c ≢ bank d → steps R r (c ∷ d ∷ []) ≡ steps R r (d ∷ c ∷ [])
  step_swap r c d differ = go (is_step R r c) (is_step R r d) refl refl
    where
      go : (x y : Bool) → is_step R r c ≡ x → is_step R r d ≡ y
          → cond x (c ∷ cond y (d ∷ []) []) (cond y (d ∷ []) []) ≡ cond y (d ∷ cond x (c ∷ []) []) (cond x (c ∷ []) [])
      go true true p q =
          absurd (differ (eqb-true _ _ (and_right (eqb (refusal c 0) 0) _ p) ∙ sym (eqb-true _ _ (and_right (eqb (refusal d 0) 0) _ q))))
      go true false p q = refl
      go false true p q = refl
      go false false p q = refl

  pub calls_commute : (c d : Call) (s : Store) → flaw s ≡ 0 → bank c ≢ bank d → store_after R (c ∷ d ∷ []) s ≡ store_after R (d ∷ c ∷ []) s
  calls_commute c d s h differ =
      H.store_ext _ _ (after_in_order R H (c ∷ d ∷ []) s h) (after_in_order R H (d ∷ c ∷ []) s h)
      (λ r rh. (isolation R H (c ∷ d ∷ []) s h).states r rh ∙ ap (λ (ss : List Call). lone_state R ss (own r s)) (step_swap r c d differ)
      ∙ sym ((isolation R H (d ∷ c ∷ []) s h).states r rh))
