-- The rules of document 01 as the theorem on isolation reads them: what a list of single-record calls is run under, for the lent tables.
-- The store is the ledger, and a bank's part of it is its compartment.
-- Assumes nothing.
use Rattle.std.specs.Prelude.{ℕ, List}
use Rattle.frame.specs.Isolation.{Rules}
use Rattle.frame.specs.Parts.{put}
use Rattle.tables.specs.Tables.{Tables}
use Rattle.ledger.specs.Sound.{bank_count, compartment_size, compartment, ledger_flaw}
use Rattle.answer.specs.Answer.{answer_bytes}
use Rattle.calls.specs.Call.{Call, no_row, refusal_of, checked_of, row_of, failed_of, no_reporter, formal_of, answer_of, step_answer, step_compartment}

-- for whatever brings a call with it, and is refused by a number of its own
abbrev pub rules_for : Tables → {A : Type 0} → (A → Call) → (A → ℕ → ℕ) → Rules
rules_for tables {A} call refusal = record {
  Call = A;
  Answer = List ℕ;
  Store = List ℕ;
  State = List ℕ;
  banks = bank_count;
  own = compartment;
  keep = put compartment_size;
  flaw = ledger_flaw;
  refusal = refusal;
  bank = λ b. row_of (checked_of tables (call b));
  stranger = λ b. answer_bytes (answer_of (failed_of (checked_of tables (call b))) no_reporter no_row (call b).«record»);
  judge = λ b c. answer_bytes (step_answer (formal_of tables (call b)) (call b).«record» c);
  next = λ b c. step_compartment (formal_of tables (call b)) (call b).«record» c;
}

-- for the calls themselves
abbrev pub rules : Tables → Rules
rules tables = rules_for tables (λ (c : Call). c) (refusal_of tables)
