-- Laws of lists of calls: the answers of two lists in a row, and that a list without refusals answers sixteen bytes a call.
-- Assumes nothing.
use Prim.Native.Nat.{ℕ, ◌*◌}
use native.Mathlib.Omega.{arith}
use mathlib.Core.Bool.{Bool, true, false}
use mathlib.Core.List.{List, [], ◌∷◌, ◌++◌, append-nil, append_assoc}
use mathlib.Core.Path.{◌≡◌, refl, ap, ◌∙◌}
use borrow.Author.Tests.{ltb-true, ltb-false}
use lib.Dec.{ltb}
use lib.ListN.{length, length-append}
use Rattle.frame.specs.Reply.{Reply, refused, accepted}
use Rattle.frame.specs.Isolation.{Outcome, single, replies, store_after}
use Rattle.frame.specs.Earlier.{WithEarlier}
use Rattle.frame.proofs.Isolation as isolated
use Rattle.frame.proofs.Isolation.{single_stranger, single_step}
use Rattle.tables.specs.Tables.{Tables}
use Rattle.ledger.specs.Sound.{bank_count, ledger_flaw}
use Rattle.answer.specs.Answer.{answer_size}
use Rattle.answer.proofs.AnswerLaws.{answer_length}
use Rattle.calls.specs.Call.{Call, refusal_of, checked_of, row_of}
use Rattle.calls.specs.Rules.{rules}
use Rattle.calls.specs.Judging.{booking_rules}
use Rattle.calls.specs.Filing.{answers_in}
use Rattle.calls.specs.FileSteps.{Admitted}
use Rattle.calls.proofs.JudgingLaws.{booking_free, booking_fits}
use Rattle.calls.proofs.Demand3.{lawful}

pub answers_append : (vs ws : List (Reply (List ℕ))) → answers_in (vs ++ ws) ≡ answers_in vs ++ answers_in ws
unfolding answers_in
answers_append [] ws = refl
answers_append (refused n ∷ vs) ws = answers_append vs ws
answers_append (accepted a ∷ vs) ws = rw (answers_append vs ws, append_assoc)

module _ (tables : Tables) where
  -- a list of calls leaves a ledger in order
  pub after_in_order : (calls : List Call) (l : List ℕ) → ledger_flaw l ≡ 0 → ledger_flaw (store_after (rules tables) calls l) ≡ 0
  after_in_order = isolated.after_in_order (rules tables) (lawful tables)

  -- a call that is not refused is answered by sixteen bytes
  pub single_answered : (call : Call) (l : List ℕ) → refusal_of tables call (ledger_flaw l) ≡ 0
      → length (answers_in ((single (rules tables) call l).reply ∷ [])) ≡ answer_size
  unfolding answers_in
  single_answered call l free = go (ltb (row_of (checked_of tables call)) bank_count) refl
    where
      go : (b : Bool) → ltb (row_of (checked_of tables call)) bank_count ≡ b → length (answers_in ((single (rules tables) call l).reply ∷ [])) ≡ answer_size
      go true h = rw (single_step (rules tables) call l _ free refl (ltb-true _ _ h), append-nil) (answer_length _)
      go false h = rw (single_stranger (rules tables) call l free (ltb-false _ _ h), append-nil) (answer_length _)

  pub booking_answered : (b : WithEarlier Call) (l : List ℕ) → (booking_rules tables).refusal b (ledger_flaw l) ≡ 0
      → length (answers_in ((single (booking_rules tables) b l).reply ∷ [])) ≡ answer_size
  booking_answered b l free =
      let fits = booking_free tables b l free in
      ap (λ (o : Outcome (List ℕ) (List ℕ)). length (answers_in (o.reply ∷ []))) (booking_fits tables b l fits.1)
      ∙ single_answered b.call l fits.0

  -- the answers of a list without refusals
  pub answers_sized : (calls : List Call) (l : List ℕ) → Admitted tables calls → ledger_flaw l ≡ 0
      → length (answers_in (replies (rules tables) calls l)) ≡ length calls * answer_size
  unfolding answers_in
  answers_sized [] l h sound = refl
  answers_sized (c ∷ cs) l h sound =
      let first = single_answered c l (ap (refusal_of tables c) sound ∙ h.0) in
      let next : List ℕ = (single (rules tables) c l).store in
      let rest = answers_sized cs next h.1 (after_in_order (c ∷ []) l sound) in
      ap length (answers_append ((single (rules tables) c l).reply ∷ []) (replies (rules tables) cs next))
      ∙ rw length-append (omega arith)
