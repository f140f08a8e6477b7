-- Demand 3 for any rules of judging and booking: calls, the lone copy, bank after bank, and the claim about a list of calls. Document 01's own words for
-- its ledger stand with the rules of document 01, in `CallsIsolated` of the crate `calls`.
-- Assumes nothing.
use Rattle.std.specs.Prelude.{ℕ, zero, suc, ◌<◌, ◌≡◌, Bool, true, false, ◌&&◌, cond, List, [], ◌∷◌, ◌++◌, map, ◌≢◌, eqb, ltb}
use Rattle.frame.specs.Reply.{Reply, refused, accepted, refusal_in}

-- The rules that a list of calls is run under, the lent tables being fixed. A call is its arguments but for the store: what the calls are lent for
-- writing, and pass on. In document 01 that is the ledger, and a bank's part of it is its compartment.
pub record Rules : Type 1 where
  pub Call : Type 0
  pub Answer : Type 0
  pub Store : Type 0
  pub State : Type 0  -- one bank's part of a store, which is all that its lone copy has
  pub banks : ℕ
  pub own : ℕ → Store → State  -- bank r's part
  pub keep : ℕ → State → Store → Store  -- the store with bank r's part replaced
  pub flaw : Store → ℕ  -- the number by which the store itself refuses a call; 0 where it is in order
  pub refusal : Call → ℕ → ℕ  -- the number by which the call is refused, 0 for none, where the store's own number is given
  pub bank : Call → ℕ  -- the bank for which the record passes the sender check; for none, a number that is no bank's
  pub stranger : Call → Answer  -- the answer to a record that passes for no bank
  pub judge : Call → State → Answer  -- the answer to a record that passes, on its bank's part as it then stands
  pub next : Call → State → State  -- that part afterwards

-- What the theorems ask of the rules: a store that is not in order refuses every call; a step leaves the store in order, its bank's part as it made it, and
-- every other part as it was; and a store in order is no more than its banks' parts.
pub record Lawful (R : Rules) : Type 0 where
  pub flaw_refuses : (c : R.Call) (n : ℕ) → R.refusal c n ≡ 0 → n ≡ 0
  pub step_in_order : (c : R.Call) (r : ℕ) → r < R.banks → (s : R.Store) → R.flaw s ≡ 0 → R.flaw (R.keep r (R.next c (R.own r s)) s) ≡ 0
  pub step_own : (c : R.Call) (r : ℕ) → r < R.banks → (s : R.Store) → R.flaw s ≡ 0
      → R.own r (R.keep r (R.next c (R.own r s)) s) ≡ R.next c (R.own r s)
  pub step_other : (c : R.Call) (r : ℕ) → r < R.banks → (s : R.Store) → R.flaw s ≡ 0 → (q : ℕ) → q < R.banks → q ≢ r
      → R.own q (R.keep r (R.next c (R.own r s)) s) ≡ R.own q s
  pub store_ext : (s t : R.Store) → R.flaw s ≡ 0 → R.flaw t ≡ 0 → ((r : ℕ) → r < R.banks → R.own r s ≡ R.own r t) → s ≡ t

-- what a call returns, and the store that it leaves
pub record Outcome (A S : Type 0) : Type 0 where
  pub reply : Reply A
  pub store : S

module _ (R : Rules) where
  open R use {Call, Answer, Store, State, banks, own, keep, flaw, refusal, bank, stranger, judge, next}

  -- One call. A bank's part is opened only for a record that passes the sender check, and it is that bank's.
  abbrev pub act : Call → Store → ℕ → Bool → Bool → Outcome Answer Store
  act c s n true true = record { reply = accepted (judge c (own (bank c) s)); store = keep (bank c) (next c (own (bank c) s)) s }
  act c s n true false = record { reply = accepted (stranger c); store = s }
  act c s n false b = record { reply = refused n; store = s }

  unfoldable pub single : Call → Store → Outcome Answer Store
  single c s = act c s (refusal c (flaw s)) (eqb (refusal c (flaw s)) 0) (ltb (bank c) banks)

  -- A list of calls, each on the store that the last one left.
  abbrev pub replies : List Call → Store → List (Reply Answer)
  replies [] s = []
  replies (c ∷ cs) s = (single c s).reply ∷ replies cs (single c s).store

  abbrev pub store_after : List Call → Store → Store
  store_after [] s = s
  store_after (c ∷ cs) s = store_after cs (single c s).store

  -- Bank r's answers: those to the records that pass the sender check for r, in calls that are not refused.
  abbrev pub own_replies : ℕ → List Call → List (Reply Answer) → List Answer
  own_replies r [] ws = []
  own_replies r (c ∷ cs) [] = []
  own_replies r (c ∷ cs) (refused n ∷ ws) = own_replies r cs ws
  own_replies r (c ∷ cs) (accepted a ∷ ws) = cond (eqb (bank c) r) (a ∷ own_replies r cs ws) (own_replies r cs ws)

  abbrev pub answers_for : ℕ → List Call → Store → List Answer
  answers_for r cs s = own_replies r cs (replies cs s)

  -- "Step": a call that the lone copy of bank r takes. It is not refused, the store being in order, and its record passes for r.
  abbrev pub is_step : ℕ → Call → Bool
  is_step r c = eqb (refusal c 0) 0 && eqb (bank c) r

  abbrev pub steps : ℕ → List Call → List Call
  steps r [] = []
  steps r (c ∷ cs) = cond (is_step r c) (c ∷ steps r cs) (steps r cs)

  -- "The lone copy": what its steps answer and leave, from a state of its own.
  abbrev pub lone_answers : List Call → State → List Answer
  lone_answers [] s = []
  lone_answers (c ∷ cs) s = judge c s ∷ lone_answers cs (next c s)

  abbrev pub lone_state : List Call → State → State
  lone_state [] s = s
  lone_state (c ∷ cs) s = lone_state cs (next c s)

  -- "Bank after bank", for the banks below n: first the steps of bank 0, in list order, then those of bank 1, and so on.
  abbrev pub bank_after_bank : ℕ → List Call → List Call
  bank_after_bank zero cs = []
  bank_after_bank (suc n) cs = bank_after_bank n cs ++ steps n cs

  -- The claim, of a list of calls and the store that it starts on.
  pub record Isolated (cs : List Call) (s : Store) : Type 0 where
    -- each bank's answers are those of its lone copy, in order
    pub answers : (r : ℕ) → r < banks → answers_for r cs s ≡ lone_answers (steps r cs) (own r s)
    -- each bank's part after the list is its lone copy's last state
    pub states : (r : ℕ) → r < banks → own r (store_after cs s) ≡ lone_state (steps r cs) (own r s)
    -- the store stays in order
    pub stays_in_order : flaw (store_after cs s) ≡ 0
    -- no call is refused for the store: each is refused just as on one in order
    pub refusals : map refusal_in (replies cs s) ≡ map (λ c. refusal c 0) cs
    -- one call more that is a step for no bank, refused or not, leaves the store
    pub idle : (c : Call) → ((r : ℕ) → r < banks → is_step r c ≡ false) → store_after (cs ++ (c ∷ [])) s ≡ store_after cs s
    -- bank after bank leaves the same store
    pub same_store : store_after (bank_after_bank banks cs) s ≡ store_after cs s
    -- and gives each bank the same answers
    pub same_answers : (r : ℕ) → r < banks → answers_for r (bank_after_bank banks cs) s ≡ answers_for r cs s

  -- The claim for a store that is not in order: every call of the list is refused, by a number that is not 0, and the store stays as it is.
  pub record Stopped (cs : List Call) (s : Store) : Type 0 where
    pub all_refused : replies cs s ≡ map (λ c. refused (refusal c (flaw s))) cs
    pub never_zero : (c : Call) → refusal c (flaw s) ≢ 0
    pub same_store : store_after cs s ≡ s
