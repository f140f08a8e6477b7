-- Demand 3 for any lawful rules: a theorem for every list of calls and every store in order, one for every other store; and the three cases of one call.
-- Assumes nothing.
use Prim.Native.Nat.{ℕ, zero, suc, ◌≤◌, ◌<◌}
use native.Mathlib.Nat.{not-suc-le-zero}
use native.Mathlib.Decide.{ℕ_discrete}
use native.Mathlib.Omega.{arith}
use mathlib.Core.Path.{◌≡◌, refl, ap, sym, ◌∙◌}
use mathlib.Core.Bool.{Bool, true, false, ◌&&◌, cond, false≢true}
use mathlib.Core.List.{List, [], ◌∷◌, ◌++◌, append-nil, map}
use mathlib.Core.Logic.{◌≢◌}
use lib.Dec.{eqb, ltb}
use borrow.Author.Tests.{eqb-true, eqb-false, eq-eqb, ne_eqb, ltb-true, ltb-false, lt-ltb, le-ltb}
use Rattle.frame.specs.Reply.{Reply, refused, accepted, refusal_in}
use Rattle.frame.specs.Isolation.{Rules, Lawful, act, single, replies, store_after}
use Rattle.frame.specs.Isolation.{own_replies, answers_for, is_step, steps, lone_answers, lone_state, bank_after_bank, Isolated, Stopped}
use Rattle.frame.proofs.BoolLaws.{and_intro}

module _ (R : Rules) (H : Lawful R) where
  open R use {Call, Answer, Store, State, banks, own, keep, flaw, refusal, bank, stranger, judge, next}

  act_in_order : (c : Call) (s : Store) → flaw s ≡ 0 → (n : ℕ) (f b : Bool) → ltb (bank c) banks ≡ b → flaw (act R c s n f b).store ≡ 0
  act_in_order c s h n true true e = H.step_in_order c (bank c) (ltb-true _ _ e) s h
  act_in_order c s h n true false e = h
  act_in_order c s h n false b e = h

  single_in_order : (c : Call) (s : Store) → flaw s ≡ 0 → flaw (single R c s).store ≡ 0
  unfolding single
  single_in_order c s h = let n : ℕ = refusal c (flaw s) in act_in_order c s h n (eqb n 0) _ refl

  pub after_in_order : (cs : List Call) (s : Store) → flaw s ≡ 0 → flaw (store_after R cs s) ≡ 0
  after_in_order [] s h = h
  after_in_order (c ∷ cs) s h = after_in_order cs _ (single_in_order c s h)

  module _ (r : ℕ) (rh : r < banks) where
    -- one call as bank r sees it: its answer, and its part
    act_answer : (c : Call) (cs : List Call) (ws : List (Reply Answer)) (s : Store) (n : ℕ) (f b q : Bool) → ltb (bank c) banks ≡ b → eqb (bank c) r ≡ q
        → own_replies R r (c ∷ cs) ((act R c s n f b).reply ∷ ws)
        ≡ cond (f && q) (judge c (own r s) ∷ own_replies R r cs ws) (own_replies R r cs ws)
    act_answer c cs ws s n true true true e d = rw (d, eqb-true (bank c) r d)
    act_answer c cs ws s n true true false e d = rw d
    act_answer c cs ws s n true false true e d = absurd (omega (arith, ltb-false (bank c) banks e, eqb-true (bank c) r d))
    act_answer c cs ws s n true false false e d = rw d
    act_answer c cs ws s n false b q e d = refl

    act_state : (c : Call) (s : Store) → flaw s ≡ 0 → (n : ℕ) (f b q : Bool) → ltb (bank c) banks ≡ b → eqb (bank c) r ≡ q
        → own r (act R c s n f b).store ≡ cond (f && q) (next c (own r s)) (own r s)
    act_state c s h n true true true e d = rw (eqb-true (bank c) r d) (H.step_own c r rh s h)
    act_state c s h n true true false e d = H.step_other c (bank c) (ltb-true _ _ e) s h r rh (λ q. eqb-false _ _ d (sym q))
    act_state c s h n true false true e d = absurd (omega (arith, ltb-false (bank c) banks e, eqb-true (bank c) r d))
    act_state c s h n true false false e d = refl
    act_state c s h n false b q e d = refl

    -- the lone copy's turn, by whether the call is a step
    answers_turn : (x : Bool) (c : Call) (ss : List Call) (s t : State) (vs : List Answer) → vs ≡ lone_answers R ss t → t ≡ cond x (next c s) s
        → cond x (judge c s ∷ vs) vs ≡ lone_answers R (cond x (c ∷ ss) ss) s
    answers_turn true c ss s t vs p q = rw (p, q)
    answers_turn false c ss s t vs p q = rw (p, q)

    state_turn : (x : Bool) (c : Call) (ss : List Call) (s t : State) → t ≡ cond x (next c s) s → lone_state R ss t ≡ lone_state R (cond x (c ∷ ss) ss) s
    state_turn true c ss s t q = rw q
    state_turn false c ss s t q = rw q

    single_state : (c : Call) (s : Store) → flaw s ≡ 0 → own r (single R c s).store ≡ cond (is_step R r c) (next c (own r s)) (own r s)
    unfolding single
    single_state c s h =
        let n : ℕ = refusal c (flaw s) in
        act_state c s h n (eqb n 0) _ _ refl refl
        ∙ ap (λ (k : ℕ). cond (eqb (refusal c k) 0 && eqb (bank c) r) (next c (own r s)) (own r s)) h

    lone_answers_lem : (cs : List Call) (s : Store) → flaw s ≡ 0 → answers_for R r cs s ≡ lone_answers R (steps R r cs) (own r s)
    unfolding single
    lone_answers_lem [] s h = refl
    lone_answers_lem (c ∷ cs) s h =
        let vs : List Answer = answers_for R r cs (single R c s).store in
        let n : ℕ = refusal c (flaw s) in
        act_answer c cs _ s n (eqb n 0) _ _ refl refl
        ∙ ap (λ (k : ℕ). cond (eqb (refusal c k) 0 && eqb (bank c) r) (judge c (own r s) ∷ vs) vs) h
        ∙ answers_turn (is_step R r c) c (steps R r cs) (own r s) _ vs (lone_answers_lem cs _ (single_in_order c s h)) (single_state c s h)

    lone_state_lem : (cs : List Call) (s : Store) → flaw s ≡ 0 → own r (store_after R cs s) ≡ lone_state R (steps R r cs) (own r s)
    lone_state_lem [] s h = refl
    lone_state_lem (c ∷ cs) s h =
        lone_state_lem cs _ (single_in_order c s h) ∙ state_turn (is_step R r c) c (steps R r cs) (own r s) _ (single_state c s h)

  -- a call is refused as its number says, and answered otherwise
  act_refused : (c : Call) (s : Store) (n : ℕ) (f b : Bool) → eqb n 0 ≡ f → refusal_in (act R c s n f b).reply ≡ n
  act_refused c s n true true e = sym (eqb-true n 0 e)
  act_refused c s n true false e = sym (eqb-true n 0 e)
  act_refused c s n false b e = refl

  single_refusal : (c : Call) (s : Store) → flaw s ≡ 0 → refusal_in (single R c s).reply ≡ refusal c 0
  unfolding single
  single_refusal c s h = act_refused c s (refusal c (flaw s)) _ _ refl ∙ ap (refusal c) h

  all_refusals : (cs : List Call) (s : Store) → flaw s ≡ 0 → map refusal_in (replies R cs s) ≡ map (λ c. refusal c 0) cs
  all_refusals [] s h = refl
  all_refusals (c ∷ cs) s h = rw (single_refusal c s h, all_refusals cs _ (single_in_order c s h))

  -- the steps of bank after bank
  steps_append : (r : ℕ) (vs bs : List Call) → steps R r (vs ++ bs) ≡ steps R r vs ++ steps R r bs
  steps_append r [] bs = refl
  steps_append r (c ∷ vs) bs = go (is_step R r c) (steps_append r vs bs)
    where
      go : (x : Bool) → steps R r (vs ++ bs) ≡ steps R r vs ++ steps R r bs
          → cond x (c ∷ steps R r (vs ++ bs)) (steps R r (vs ++ bs)) ≡ cond x (c ∷ steps R r vs) (steps R r vs) ++ steps R r bs
      go true p = rw p
      go false p = p

  steps_own : (r : ℕ) (cs : List Call) → steps R r (steps R r cs) ≡ steps R r cs
  steps_own r [] = refl
  steps_own r (c ∷ cs) = go (is_step R r c) refl (steps_own r cs)
    where
      go : (x : Bool) → is_step R r c ≡ x → steps R r (steps R r cs) ≡ steps R r cs
          → steps R r (cond x (c ∷ steps R r cs) (steps R r cs)) ≡ cond x (c ∷ steps R r cs) (steps R r cs)
      go true e p = rw (e, p)
      go false e p = p

  steps_other : (r q : ℕ) → r ≢ q → (cs : List Call) → steps R r (steps R q cs) ≡ []
  steps_other r q ne [] = refl
  steps_other r q ne (c ∷ cs) = go (is_step R q c) refl (steps_other r q ne cs)
    where
      differs : (x y z : Bool) → eqb (bank c) q ≡ y → eqb (bank c) r ≡ z → (x && y) ≡ true → (x && z) ≡ false
      differs true true true d e h = absurd (ne (sym (eqb-true _ _ e) ∙ eqb-true _ _ d))
      differs true true false d e h = refl
      differs true false z d e h = absurd (false≢true h)
      differs false y z d e h = absurd (false≢true h)

      go : (x : Bool) → is_step R q c ≡ x → steps R r (steps R q cs) ≡ []
          → steps R r (cond x (c ∷ steps R q cs) (steps R q cs)) ≡ []
      go true e p = rw (differs (eqb (refusal c 0) 0) _ _ refl refl e) p
      go false e p = p

  steps_none : (n r : ℕ) → n ≤ r → (cs : List Call) → steps R r (bank_after_bank R n cs) ≡ []
  steps_none zero r h cs = refl
  steps_none (suc n) r h cs =
      steps_append r (bank_after_bank R n cs) (steps R n cs)
      ∙ rw (steps_none n r (omega arith) cs) (steps_other r n (omega arith) cs)

  steps_banks : (n r : ℕ) → r < n → (cs : List Call) → steps R r (bank_after_bank R n cs) ≡ steps R r cs
  steps_banks zero r h cs = absurd (not-suc-le-zero h)
  steps_banks (suc n) r h cs =
      steps_append r (bank_after_bank R n cs) (steps R n cs) ∙ go (ℕ_discrete r n) (λ lt. steps_banks n r lt cs)
    where
      go : Dec (r ≡ n) → (r < n → steps R r (bank_after_bank R n cs) ≡ steps R r cs)
          → steps R r (bank_after_bank R n cs) ++ steps R r (steps R n cs) ≡ steps R r cs
      go (yes e) f = rw (steps_none n r (omega arith) cs, e) (steps_own n cs)
      go (no ne) f = rw (f (omega arith), steps_other r n ne cs) (append-nil _)

  -- a call that is a step for no bank
  act_idle : (c : Call) (s : Store) (n : ℕ) (f b : Bool) → eqb (refusal c 0) 0 ≡ f → ltb (bank c) banks ≡ b
      → ((r : ℕ) → r < banks → is_step R r c ≡ false) → (act R c s n f b).store ≡ s
  act_idle c s n true true d e none =
      absurd (false≢true (sym (none (bank c) (ltb-true _ _ e)) ∙ and_intro _ _ d (eq-eqb (bank c) _ refl)))
  act_idle c s n true false d e none = refl
  act_idle c s n false b d e none = refl

  after_last : (cs : List Call) (c : Call) (s : Store) → store_after R (cs ++ (c ∷ [])) s ≡ (single R c (store_after R cs s)).store
  after_last [] c s = refl
  after_last (d ∷ cs) c s = after_last cs c _

  single_idle : (c : Call) (s : Store) → flaw s ≡ 0 → ((r : ℕ) → r < banks → is_step R r c ≡ false) → (single R c s).store ≡ s
  unfolding single
  single_idle c s h none = let n : ℕ = refusal c (flaw s) in act_idle c s n (eqb n 0) _ (ap (λ (k : ℕ). eqb (refusal c k) 0) (sym h)) refl none

  pub isolation : (cs : List Call) (s : Store) → flaw s ≡ 0 → Isolated R cs s
  isolation cs s h =
      let after : List Call = bank_after_bank R banks cs in
      record {
        answers = λ r rh. lone_answers_lem r rh cs s h;
        states = λ r rh. lone_state_lem r rh cs s h;
        stays_in_order = after_in_order cs s h;
        refusals = all_refusals cs s h;
        idle = λ c none. after_last cs c s ∙ single_idle c _ (after_in_order cs s h) none;
        same_store =
            H.store_ext _ _ (after_in_order after s h) (after_in_order cs s h)
            (λ r rh. lone_state_lem r rh after s h
            ∙ ap (λ (ss : List Call). lone_state R ss (own r s)) (steps_banks banks r rh cs) ∙ sym (lone_state_lem r rh cs s h));
        same_answers = λ r rh.
            lone_answers_lem r rh after s h
            ∙ ap (λ (ss : List Call). lone_answers R ss (own r s)) (steps_banks banks r rh cs) ∙ sym (lone_answers_lem r rh cs s h);
      }

-- The three cases of one call: refused, a stranger's, and a step. A contract's proof cites one at each return.
module _ (R : Rules) (c : R.Call) (s : R.Store) where
  refused_as : {n : ℕ} → R.refusal c (R.flaw s) ≡ n → single R c s ≡ act R c s n (eqb n 0) (ltb (R.bank c) R.banks)
  unfolding single
  refused_as e = rw e

  pub single_refused : (n : ℕ) → R.refusal c (R.flaw s) ≡ n → n ≢ 0 → single R c s ≡ record { reply = refused n; store = s }
  single_refused n e ne = refused_as e ∙ rw (ne_eqb n 0 ne)

  pub single_stranger : R.refusal c (R.flaw s) ≡ 0 → R.banks ≤ R.bank c → single R c s ≡ record { reply = accepted (R.stranger c); store = s }
  single_stranger e h = refused_as e ∙ rw (le-ltb _ _ h)

  pub single_step : (r : ℕ) → R.refusal c (R.flaw s) ≡ 0 → R.bank c ≡ r → r < R.banks
      → single R c s ≡ record { reply = accepted (R.judge c (R.own r s)); store = R.keep r (R.next c (R.own r s)) s }
  single_step r e b h = let inside : R.bank c < R.banks = rw b h in refused_as e ∙ rw (lt-ltb _ _ inside, b)

-- A store that is not in order stops every call.
module _ (R : Rules) (H : Lawful R) (s : R.Store) (ne : R.flaw s ≢ 0) where
  refuses : (c : R.Call) → R.refusal c (R.flaw s) ≢ 0
  refuses c e = ne (H.flaw_refuses c (R.flaw s) e)

  stopped_call : (c : R.Call) → single R c s ≡ record { reply = refused (R.refusal c (R.flaw s)); store = s }
  stopped_call c = single_refused R c s _ refl (refuses c)

  stopped_replies : (cs : List R.Call) → replies R cs s ≡ map (λ c. refused (R.refusal c (R.flaw s))) cs
  stopped_replies [] = refl
  stopped_replies (c ∷ cs) = rw (stopped_call c, stopped_replies cs)

  stopped_store : (cs : List R.Call) → store_after R cs s ≡ s
  stopped_store [] = refl
  stopped_store (c ∷ cs) = rw (stopped_call c) (stopped_store cs)

  pub stopped : (cs : List R.Call) → Stopped R cs s
  stopped cs = record { all_refused = stopped_replies cs; never_zero = refuses; same_store = stopped_store cs }
