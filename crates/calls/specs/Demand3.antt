-- "The lone copy of demand 3" of document 01, in its own words: the claim about a list of calls under the lent tables, and the ledger that it starts on: of
-- single-record calls, and of booking calls (document 02, Item 5). What the names mean for any rules stands in `Isolation.antt` of the crate `frame`; which
-- rules they are here, in `Rules.antt` and `Judging.antt`.
-- Assumes nothing.
use Rattle.std.specs.Prelude.{ℕ, ◌<◌, true, false, List, [], ◌∷◌, ◌++◌, map, ◌≡◌}
use Rattle.frame.specs.Reply.{refusal_in}
use Rattle.frame.specs.Isolation.{Rules, replies, store_after, answers_for, is_step, steps, lone_answers, lone_state, bank_after_bank}
use Rattle.frame.specs.Earlier.{WithEarlier, earlier_refusal}
use Rattle.tables.specs.Tables.{Tables}
use Rattle.ledger.specs.Sound.{bank_count, compartment, sound_ledger}
use Rattle.calls.specs.Call.{Call, refusal_of}
use Rattle.calls.specs.Rules.{rules_for, rules}
use Rattle.calls.specs.Judging.{earlier_fits}

-- of a list of what brings a call with it, and is refused by a number of its own
module _ (tables : Tables) {A : Type 0} (call : A → Call) (refusal : A → ℕ → ℕ) where
  abbrev R : Rules
  R = rules_for tables call refusal

  pub record ListIsolated (cs : List A) (l : List ℕ) : Type 0 where
    -- "Compared are all bytes: its answers with those of the same calls, in order, .."
    pub answers : (r : ℕ) → r < bank_count → answers_for R r cs l ≡ lone_answers R (steps R r cs) (compartment r l)
    -- ".. and its last state with compartment r after the list."
    pub states : (r : ℕ) → r < bank_count → compartment r (store_after R cs l) ≡ lone_state R (steps R r cs) (compartment r l)
    -- ".. the ledger staying sound .."
    pub stays_sound : sound_ledger (store_after R cs l) ≡ true
    -- ".. 4 never applies ..": each call is refused just as on every sound ledger
    pub refusals : map refusal_in (replies R cs l) ≡ map (λ c. refusal c 0) cs
    -- "A refused call (..) and a record that doesn't pass the sender check for r are no step.": one call more that is a step for no bank leaves the ledger
    pub idle : (c : A) → ((r : ℕ) → r < bank_count → is_step R r c ≡ false) → store_after R (cs ++ (c ∷ [])) l ≡ store_after R cs l
    -- "Bank after bank, from the same starting ledger: first the calls that are steps for bank 0, in list order, then those for bank 1, up to 15; the
    -- others are left out.": the same last ledger
    pub same_ledger : store_after R (bank_after_bank R bank_count cs) l ≡ store_after R cs l
    -- and each bank's answers are the same
    pub same_answers : (r : ℕ) → r < bank_count → answers_for R r (bank_after_bank R bank_count cs) l ≡ answers_for R r cs l

module _ (tables : Tables) where
  -- of single-record calls
  abbrev pub CallsIsolated : List Call → List ℕ → Type 0
  CallsIsolated cs l = ListIsolated tables (λ (c : Call). c) (refusal_of tables) cs l

  -- of booking calls, "those refused by 29 too, whatever their earlier answers hold"
  abbrev pub BookingsIsolated : List (WithEarlier Call) → List ℕ → Type 0
  BookingsIsolated bs l = ListIsolated tables (λ (b : WithEarlier Call). b.call) (earlier_refusal (rules tables) (earlier_fits tables) 29) bs l

  -- the ledger that a list of single-record calls leaves
  abbrev pub ledger_after : List Call → List ℕ → List ℕ
  ledger_after cs l = store_after (rules tables) cs l
