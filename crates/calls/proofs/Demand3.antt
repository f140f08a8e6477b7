-- Demand 3 of document 01, of the single-record calls: one theorem about every list of them; and what follows for the inspector.
-- Assumes nothing.
use Prim.Native.Nat.{ℕ, ◌≤◌, ◌<◌}
use native.Mathlib.Omega.{arith}
use mathlib.Core.Bool.{true, false, false≢true}
use mathlib.Core.List.{List, [], ◌∷◌}
use mathlib.Core.Logic.{◌≢◌}
use mathlib.Core.Path.{◌≡◌, sym, ◌∙◌}
use Rattle.frame.specs.Isolation.{Lawful, Stopped, single, answers_for}
use Rattle.frame.specs.Earlier.{WithEarlier, earlier_refusal}
use Rattle.frame.proofs.Isolation.{isolation, stopped}
use Rattle.frame.proofs.EarlierLaws.{earlier_lawful}
use Rattle.frame.proofs.Consequences as consequences
use Rattle.failures.specs.declared.Failures.{Failures}
use Rattle.tables.specs.Tables.{Tables}
use Rattle.ledger.specs.Sound.{bank_count, compartment, sound_compartment, sound_ledger, ledger_flaw}
use Rattle.ledger.proofs.LedgerLaws.{flaw_none, flawless, sound_part, own_put, other_put, put_sound, ledger_ext}
use Rattle.std.specs.Prelude.{Err}
use Rattle.calls.specs.Call.{Call, refusal_of, checked_of, row_of}
use Rattle.calls.specs.Rules.{rules_for, rules}
use Rattle.calls.specs.Judging.{earlier_fits, booking_rules}
use Rattle.calls.specs.Demand3.{ListIsolated, CallsIsolated, BookingsIsolated, ledger_after}
use Rattle.calls.proofs.CallLaws.{accepted}
use Rattle.calls.proofs.StepLaws.{step_sound}

module _ (tables : Tables) where
  -- the compartment of a step is sound afterwards
  next_sound : (call : Call) (r : ℕ) → r < bank_count → (l : List ℕ) → ledger_flaw l ≡ 0 → sound_compartment ((rules tables).next call (compartment r l)) ≡ true
  next_sound call r bank l h = step_sound tables call _ (sound_part l (flawless l h) r bank)

  pub lawful : Lawful (rules tables)
  lawful = record {
    flaw_refuses = λ call n e. (accepted tables call n e).kept;
    step_in_order = λ call r bank l h. flaw_none _ (put_sound l (flawless l h) r bank _ (next_sound call r bank l h));
    step_own = λ call r bank l h. own_put l (flawless l h) r bank _ (next_sound call r bank l h);
    step_other = λ call r bank l h. other_put l (flawless l h) r bank _ (next_sound call r bank l h);
    store_ext = λ l m h k. ledger_ext l m (flawless l h) (flawless m k);
  }

  -- isolation in the words of document 01, of whatever brings a call with it
  ledger_isolation : {A : Type 0} (call : A → Call) (refusal : A → ℕ → ℕ) → Lawful (rules_for tables call refusal) → (cs : List A) (l : List ℕ)
      → sound_ledger l ≡ true → ListIsolated tables call refusal cs l
  ledger_isolation call refusal lawful cs l h =
      let all = isolation (rules_for tables call refusal) lawful cs l (flaw_none l h) in
      record {
        answers = all.answers;
        states = all.states;
        stays_sound = flawless _ all.stays_in_order;
        refusals = all.refusals;
        idle = all.idle;
        same_ledger = all.same_store;
        same_answers = all.same_answers;
      }

  -- For every pair of tables, every list of calls, refused ones included, and every sound ledger: each bank's answers and compartment are those of its
  -- lone copy, and bank after bank leaves the same ledger and the same answers.
  pub demand3 : (calls : List Call) (l : List ℕ) → sound_ledger l ≡ true → CallsIsolated tables calls l
  demand3 = ledger_isolation (λ (c : Call). c) (refusal_of tables) lawful

  -- The same of booking calls, those refused by 29 too, whatever their earlier answers hold.
  pub demand3_bookings : (bookings : List (WithEarlier Call)) (l : List ℕ) → sound_ledger l ≡ true → BookingsIsolated tables bookings l
  demand3_bookings =
      ledger_isolation (λ (b : WithEarlier Call). b.call) (earlier_refusal (rules tables) (earlier_fits tables) 29)
      (earlier_lawful (rules tables) (earlier_fits tables) 29 lawful)

  -- On a ledger that is not sound every call of the list is refused, and the ledger stays byte for byte as it is.
  pub demand3_stopped : (calls : List Call) (l : List ℕ) → sound_ledger l ≡ false → Stopped (rules tables) calls l
  demand3_stopped calls l h = stopped (rules tables) lawful l (λ z. false≢true (sym h ∙ flawless l z)) calls

  pub bookings_stopped : (bookings : List (WithEarlier Call)) (l : List ℕ) → sound_ledger l ≡ false → Stopped (booking_rules tables) bookings l
  bookings_stopped bookings l h =
      stopped (booking_rules tables) (earlier_lawful (rules tables) (earlier_fits tables) 29 lawful) l (λ z. false≢true (sym h ∙ flawless l z)) bookings

  -- The first moment at which the ledger is looked into: a record that fails places 0 to 6 is answered alike whatever a sound ledger holds.
  pub sender_check_blind : (call : Call) {failed : Failures} (l m : List ℕ) → sound_ledger l ≡ true → sound_ledger m ≡ true
      → checked_of tables call ≡ Err failed → (single (rules tables) call l).reply ≡ (single (rules tables) call m).reply
  sender_check_blind call l m h k e =
      let none : bank_count ≤ row_of (checked_of tables call) = rw e (omega arith) in
      consequences.stranger_blind (rules tables) call l m (flaw_none l h) (flaw_none m k) none

  -- Two ledgers that agree on a bank's compartment give that bank the same answers, and leave it the same compartment, after any list of calls.
  module _ (calls : List Call) (l m : List ℕ) (h : sound_ledger l ≡ true) (k : sound_ledger m ≡ true) (r : ℕ) (bank : r < bank_count)
      (agree : compartment r l ≡ compartment r m) where
    pub own_answers : answers_for (rules tables) r calls l ≡ answers_for (rules tables) r calls m
    own_answers = consequences.own_answers (rules tables) lawful calls l m (flaw_none l h) (flaw_none m k) r bank agree

    pub own_compartment : compartment r (ledger_after tables calls l) ≡ compartment r (ledger_after tables calls m)
    own_compartment = consequences.own_state (rules tables) lawful calls l m (flaw_none l h) (flaw_none m k) r bank agree

  -- The calls of two banks leave the same ledger in either order.
  pub banks_commute : (a b : Call) (l : List ℕ) → sound_ledger l ≡ true → row_of (checked_of tables a) ≢ row_of (checked_of tables b)
      → ledger_after tables (a ∷ b ∷ []) l ≡ ledger_after tables (b ∷ a ∷ []) l
  banks_commute a b l h differ = consequences.calls_commute (rules tables) lawful a b l (flaw_none l h) differ
