-- Laws of the exported calls: their replies as numbers, and what they leave.
-- Assumes nothing.
use Prim.Native.Nat.{ℕ, ◌%◌, ◌≤◌, ◌<◌}
use native.Mathlib.Omega.{arith}
use mathlib.Core.Bool.{Bool, true, false, cond}
use mathlib.Core.List.{List, [], ◌∷◌}
use mathlib.Core.Path.{◌≡◌, refl, ap, sym, ◌∙◌}
use borrow.Author.Tests.{ne_eqb, eqb-true, eqb-false, lt-ltb, le-ltb, le-leb, ltb-true, ltb-false}
use Rattle.std.specs.Prelude.{Result, Ok, Err}
use lib.Dec.{eqb, ltb}
use lib.ListN.{length}
use Rattle.frame.specs.Reply.{Reply, refused, accepted, refusal_in}
use Rattle.frame.specs.Isolation.{Outcome}
use Rattle.frame.proofs.Consequences.{Decided}
use Rattle.identifier.specs.Isin.{letter_sum}
use Rattle.identifier.proofs.IsinLaws.{letter_sum_lem}
use Rattle.tables.specs.Tables.{Tables}
use Rattle.ledger.specs.Sound.{ledger_flaw}
use Rattle.refusal.specs.declared.Refusal.{Refusal}
use Rattle.refusal.specs.Refusal.{number_of, number_in}
use Rattle.refusal.proofs.RefusalLaws.{number_some}
use Rattle.answer.specs.declared.Answer.{Answer}
use Rattle.answer.specs.Answer.{answer_size, answer_bytes, answer_put}
use Rattle.page.specs.Page.{WriteOutcome, write_outcome, wrote_into}
use Rattle.error_file.specs.ErrorFile.{error_file_of, wrote_as}
use Rattle.calls.specs.Call.{Call}
use Rattle.calls.specs.Replied.{filed_as, outcome}
use Rattle.calls.specs.Filing.{FileOutcome, file_outcome, reading_of, carried_out, file_of}
use Rattle.capi.specs.Exported.{exported, short_number, told_into, counted_into, single_reply, single_export, file_export, write_reply, error_export, sum_export}

-- a call whose buffer is too short, by its own refusal
pub short_refused : (why : Refusal) → number_of why ≡ short_number (number_of why)
short_refused why = rw (ne_eqb _ 0 (number_some why)) refl

-- the three returns of a call of one record, by its number
module _ {number : ℕ} {o : Outcome (List ℕ) (List ℕ)} (l : List ℕ) (decided : Decided number o l) (a : List ℕ) where
  pub short_exported : {r : ℕ} → length a < answer_size → r ≡ short_number number → exported r l a [] ≡ single_export o l a
  unfolding single_export
  short_exported {r} h e = ap (λ (n : ℕ). exported n l a []) e ∙ go (eqb number 0) refl
    where
      go : (b : Bool) → eqb number 0 ≡ b → exported (cond b 12 number) l a [] ≡ single_reply o l a o.reply
      go true q = let w = decided.answers (eqb-true _ _ q) in rw (w.1, lt-ltb _ _ h) refl
      go false q = rw (decided.refuses (eqb-false _ _ q)) refl

  refused_exported : {n k : ℕ} (m : List ℕ) → record { reply = refused n; store = m } ≡ o → k ≡ n → exported k m a [] ≡ single_export o l a
  unfolding single_export
  refused_exported {n} m e w = ap (λ (k : ℕ). exported k m a []) w ∙ go (eqb number 0) refl
    where
      go : (b : Bool) → eqb number 0 ≡ b → exported n m a [] ≡ single_reply o l a o.reply
      go true q =
          let w = decided.answers (eqb-true _ _ q) in
          let z : refused n ≡ accepted w.0 = ap (λ (x : Outcome (List ℕ) (List ℕ)). x.reply) e ∙ w.1 in
          let y : ◌≡◌ {A = ℕ} 0 1 = cc in
          absurd (omega arith)
      go false q =
          let same : m ≡ l = ap (λ (x : Outcome (List ℕ) (List ℕ)). x.store) (e ∙ decided.refuses (eqb-false _ _ q)) in
          let told : o.reply ≡ refused n = sym (ap (λ (x : Outcome (List ℕ) (List ℕ)). x.reply) e) in
          rw (told, same) refl

  answered_exported : (w : Answer) (m : List ℕ) {b : List ℕ} → answer_size ≤ length a → outcome (Ok w) m ≡ o
      → b ≡ answer_put 0 w a → exported 0 m b [] ≡ single_export o l a
  unfolding single_export answer_put
  answered_exported w m {b} h e p =
      let reply : o.reply ≡ accepted (answer_bytes w) = sym (ap (λ (x : Outcome (List ℕ) (List ℕ)). x.reply) e) in
      let ledger : m ≡ o.store = ap (λ (x : Outcome (List ℕ) (List ℕ)). x.store) e in
      rw (p, le-leb _ _ h, reply, le-ltb _ _ h, ledger) refl

-- the same by what the code tests: its buffer is too short, or its reply is told
module _ {number : ℕ} {o : Outcome (List ℕ) (List ℕ)} (l : List ℕ) (decided : Decided number o l) (a : List ℕ) {short : Bool}
    (s : short ≡ ltb (length a) answer_size) where
  pub short_told : {n r : ℕ} → short ≡ true → r ≡ short_number n → n ≡ number → exported r l a [] ≡ single_export o l a
  short_told h r n = short_exported l decided a (ltb-true _ _ (sym s ∙ h)) (r ∙ ap short_number n)

  pub told_exported : (r : Result Answer Refusal) (m : List ℕ) {k : ℕ} {b : List ℕ} → short ≡ false → outcome r m ≡ o
      → k ≡ number_in r → b ≡ told_into r a → exported k m b [] ≡ single_export o l a
  told_exported (Err why) m {k = n} h e k b = ap (λ (c : List ℕ). exported n m c []) b ∙ refused_exported l decided a m e k
  told_exported (Ok w) m {b = c} h e k b =
      ap (λ (n : ℕ). exported n m c []) k ∙ answered_exported l decided a w m (ltb-false _ _ (sym s ∙ h)) e b

-- a refused file call leaves ledger and buffer
pub file_kept : (tables : Tables) (file l a : List ℕ) (n : ℕ) → (file_of tables file l a).reply ≡ refused n
    → file_of tables file l a ≡ file_outcome (refused n) l a
unfolding file_of carried_out
file_kept tables file l a n = go (reading_of tables file (length a) (ledger_flaw l))
  where
    go : (w : Reply (List Call)) → (carried_out tables w l a).reply ≡ refused n → carried_out tables w l a ≡ file_outcome (refused n) l a
    go (refused m) e = ap (λ (r : Reply ℕ). file_outcome r l a) e
    go (accepted calls) e = let y : ◌≡◌ {A = ℕ} 0 1 = cc in absurd (omega arith)

-- a file call, its reply told
module _ (tables : Tables) (file l a m b : List ℕ) (word : ℕ) where
  pub file_exported : (r : Result ℕ Refusal) {k w : ℕ} → file_outcome (filed_as r) m b ≡ file_of tables file l a
      → k ≡ number_in r → w ≡ counted_into r word → exported k m b (w ∷ []) ≡ file_export tables file l a word
  unfolding file_export
  file_exported (Err why) o n u =
      let reply : (file_of tables file l a).reply ≡ refused (number_of why) = sym (ap (λ (x : FileOutcome). x.reply) o) in
      let kept : file_outcome (refused (number_of why)) m b ≡ file_outcome (refused (number_of why)) l a = o ∙ file_kept tables file l a _ reply in
      (λ i. exported (n i) (kept i).store (kept i).buffer (u i ∷ [])) ∙ rw reply refl
  file_exported (Ok count) o n u =
      let reply : (file_of tables file l a).reply ≡ accepted count = sym (ap (λ (x : FileOutcome). x.reply) o) in
      (λ i. exported (n i) (o i).store (o i).buffer (u i ∷ [])) ∙ rw reply refl

-- the two returns of a call that writes a text
length_in : Reply ℕ → ℕ
length_in (refused n) = 0
length_in (accepted n) = n

refused_wrote : (out : List ℕ) (word : ℕ) (b : List ℕ) (n : ℕ) (w : Reply (List ℕ)) → write_outcome (refused n) b ≡ wrote_into out w
    → exported n [] b (word ∷ []) ≡ write_reply out word w
unfolding wrote_into
refused_wrote out word b n (refused m) o = (λ i. exported (refusal_in (o i).reply) [] (o i).buffer (word ∷ []))
refused_wrote out word b n (accepted t) o =
    let told : refused n ≡ accepted (length t) = ap (λ (x : WriteOutcome). x.reply) o in
    let z : ◌≡◌ {A = ℕ} 0 1 = cc in
    absurd (omega arith)

told_wrote : (out : List ℕ) (word : ℕ) (b : List ℕ) (n : ℕ) (w : Reply (List ℕ)) → write_outcome (accepted n) b ≡ wrote_into out w
    → exported 0 [] b (n ∷ []) ≡ write_reply out word w
unfolding wrote_into length_in
told_wrote out word b n (refused m) o =
    let told : accepted n ≡ refused m = ap (λ (x : WriteOutcome). x.reply) o in
    let z : ◌≡◌ {A = ℕ} 0 1 = cc in
    absurd (omega arith)
told_wrote out word b n (accepted t) o = (λ i. exported 0 [] (o i).buffer (length_in (o i).reply ∷ []))

pub error_exported : (report answers member ours date time out b : List ℕ) (word : ℕ) (r : Result ℕ Refusal) {k w : ℕ}
    → write_outcome (wrote_as r) b ≡ wrote_into out (error_file_of member ours answers date time report (length out))
    → k ≡ number_in r → w ≡ counted_into r word → exported k [] b (w ∷ []) ≡ error_export report answers member ours date time out word
unfolding error_export
error_exported report answers member ours date time out b word (Err why) o n u =
    (λ i. exported (n i) [] b (u i ∷ [])) ∙ refused_wrote out word b (number_of why) _ o
error_exported report answers member ours date time out b word (Ok length) o n u =
    (λ i. exported (n i) [] b (u i ∷ [])) ∙ told_wrote out word b length _ o

-- the sum letter by letter, told for the sum over the digits
pub sum_told : {n : ℕ} {s t : List ℕ} → n ≡ letter_sum t % 10 → t ≡ s → n ≡ sum_export s
sum_told e q = rw (letter_sum_lem, q) at e
