-- Laws of the loop over a body: what the records that are left bring stays the same as one after another is taken.
-- Assumes nothing.
use Prim.Native.Nat.{ℕ, suc, ◌+◌, ◌-◌, ◌*◌, ◌≤◌, ◌<◌}
use native.Mathlib.Omega.{arith}
use mathlib.Core.Bool.{Bool, true, false}
use mathlib.Core.List.{List, [], ◌∷◌, ◌++◌, append-nil, append_assoc, map}
use mathlib.Core.Path.{◌≡◌, refl, ap, subst, sym, ◌∙◌}
use Rattle.std.specs.Prelude.{Option, Some, None, Ok}
use Rattle.std.proofs.lemmas.List.{nil_from_length}
use borrow.Author.Tests.{le-leb, leb-true, leb-false}
use lib.Dec.{leb}
use lib.ListN.{length, take, drop, length-append, take-append-drop}
use lib.Seq.{take_at, drop_at, drop-drop, length-take-le}
use Rattle.frame.specs.Isolation.{Outcome, single, replies, store_after}
use Rattle.frame.specs.Parts.{put}
use Rattle.frame.specs.Reply.{accepted}
use Rattle.frame.proofs.PartLaws.{put_length}
use Rattle.text.specs.declared.Class.TheVariants.{RecordByte}
use Rattle.tables.specs.Tables.{Tables}
use Rattle.ledger.specs.Sound.{ledger_flaw}
use Rattle.answer.specs.declared.Answer.{Answer}
use Rattle.answer.specs.Answer.{answer_size, answer_bytes, answer_put}
use Rattle.envelope.specs.Pieces.{run_of}
use Rattle.envelope.specs.Body.{Records, records, records_of, record_at, line_end}
use Rattle.envelope.specs.Envelope.{listed}
use Rattle.envelope.proofs.LineLaws.{lines_end, line_placed, line_found, line_there, lines_split}
use Rattle.calls.specs.Call.{Call, called, refusal_of}
use Rattle.calls.specs.Rules.{rules}
use Rattle.calls.specs.Replied.{outcome}
use Rattle.calls.specs.Filing.{answers_in, FileOutcome, file_outcome, carried_out}
use Rattle.calls.specs.FileSteps.{calls_from, Admitted, Ready, Taken, Open}
use Rattle.calls.proofs.JudgingLaws.{in_a_row_replies, in_a_row_ledger}
use Rattle.calls.proofs.ListLaws.{answers_append, after_in_order, single_answered}

-- the buffer before and behind answer k, once that is written
module _ (k : ℕ) (w a : List ℕ) (sized : length w ≡ answer_size) (room : k * answer_size + answer_size ≤ length a) where
  front_length : length (take (k * answer_size) a ++ w) ≡ (k + 1) * answer_size
  front_length = rw (length-append, length-take-le (k * answer_size) a (omega arith)) (omega arith)

  put_splits : put answer_size k w a ≡ (take (k * answer_size) a ++ w) ++ drop ((k + 1) * answer_size) a
  unfolding put
  put_splits =
      let e : k * answer_size + answer_size ≡ (k + 1) * answer_size = omega arith in
      rw (append_assoc, ← e, ← drop-drop answer_size (k * answer_size) a)

  put_front : take ((k + 1) * answer_size) (put answer_size k w a) ≡ take (k * answer_size) a ++ w
  put_front = rw put_splits (take_at _ _ _ front_length)

  put_behind : (n : ℕ) → drop ((k + 1 + n) * answer_size) (put answer_size k w a) ≡ drop ((k + 1 + n) * answer_size) a
  put_behind n =
      let m : ℕ = (k + 1) * answer_size in
      let e : (k + 1 + n) * answer_size ≡ m + n * answer_size = omega arith in
      let same : drop m (put answer_size k w a) ≡ drop m a = rw put_splits (drop_at (take (k * answer_size) a ++ w) _ m front_length) in
      rw (e, ← drop-drop (n * answer_size) m (put answer_size k w a), same) (drop-drop (n * answer_size) m a)

-- what is lent of a body as its record at a place
module _ (body : List ℕ) (at next : ℕ) (more : at < length body) (e : line_end body at ≡ Some next) where
  record_lent : take (next - 2 - at) (drop at body) ≡ record_at body at
  record_lent =
      let placed = line_placed body at next (omega arith) e in
      let n : next - 2 - at ≡ run_of RecordByte (drop at body) = omega arith in
      ap (λ (m : ℕ). take m (drop at body)) n

-- the call of a record that stands ready, and its answer, written as number k
module _ (tables : Tables) (sender body : List ℕ) (at k : ℕ) (l a : List ℕ) (h : Ready tables sender body at k l a) where
  pub lent_admitted : {next : ℕ} → line_end body at ≡ Some next → refusal_of tables (called sender (take (next - 2 - at) (drop at body))) (ledger_flaw l) ≡ 0
  lent_admitted {next} e = ap (λ (r : List ℕ). refusal_of tables (called sender r) (ledger_flaw l)) (record_lent body at next h.more e) ∙ h.admitted

  pub record_taken : {next : ℕ} (w : Answer) {m b : List ℕ} → line_end body at ≡ Some next
      → outcome (Ok w) m ≡ single (rules tables) (called sender (take (next - 2 - at) (drop at body))) l
      → b ≡ answer_put (k * answer_size) w a → Taken tables sender body at k l a next m b
  unfolding answer_put put answers_in
  record_taken {next} w {m} {b} e o p =
      let call : List ℕ → Call = called sender in
      let done : outcome (Ok w) m ≡ single (rules tables) (call (record_at body at)) l
      = o ∙ ap (λ (r : List ℕ). single (rules tables) (call r) l) (record_lent body at next h.more e) in
      let bytes : answer_bytes w ≡ answers_in ((single (rules tables) (call (record_at body at)) l).reply ∷ [])
      = sym (append-nil (answer_bytes w)) ∙ ap (λ (q : Outcome (List ℕ) (List ℕ)). answers_in (q.reply ∷ [])) done in
      record {
        line = e;
        store = ap (λ (q : Outcome (List ℕ) (List ℕ)). q.store) done;
        buffer = p ∙ rw (le-leb _ _ h.room, bytes);
      }

-- the same, of a record from its place to its end: CR LF stands behind it
module _ (tables : Tables) (sender body : List ℕ) (at k : ℕ) (l a : List ℕ) (h : Ready tables sender body at k l a) {end : ℕ}
    (e : end ≡ at + run_of RecordByte (drop at body)) where
  found : (line_end body at ≡ Some (end + 2)) × (end + 2 ≤ length body)
  found = line_found body at h.more h.line e

  pub end_within : end + 2 ≤ length body
  end_within = found.1

  back : end + 2 - 2 ≡ end
  back = omega arith

  pub end_admitted : refusal_of tables (called sender (take (end - at) (drop at body))) (ledger_flaw l) ≡ 0
  end_admitted =
      subst (λ (n : ℕ). refusal_of tables (called sender (take (n - at) (drop at body))) (ledger_flaw l) ≡ 0) back
      (lent_admitted tables sender body at k l a h found.0)

  pub end_taken : (w : Answer) {m b : List ℕ} → outcome (Ok w) m ≡ single (rules tables) (called sender (take (end - at) (drop at body))) l
      → b ≡ answer_put (k * answer_size) w a → Taken tables sender body at k l a (end + 2) m b
  end_taken w {m} o p =
      let o : outcome (Ok w) m ≡ single (rules tables) (called sender (take (end + 2 - 2 - at) (drop at body))) l = rw back o in
      record_taken tables sender body at k l a h w found.0 o p

module _ (tables : Tables) where
  -- what the calls that are left bring, after k answers
  abbrev pub outcome_from : ℕ → List Call → List ℕ → List ℕ → FileOutcome
  outcome_from k calls l a =
      file_outcome (accepted (k + length calls)) (store_after (rules tables) calls l)
      (take (k * answer_size) a ++ (answers_in (replies (rules tables) calls l) ++ drop ((k + length calls) * answer_size) a))

  -- the first of them is called, and its answer written
  outcome_step : (k : ℕ) (c : Call) (cs : List Call) (l a : List ℕ) → refusal_of tables c (ledger_flaw l) ≡ 0
      → k * answer_size + answer_size ≤ length a → let o = single (rules tables) c l in
      outcome_from k (c ∷ cs) l a ≡ outcome_from (k + 1) cs o.store (put answer_size k (answers_in (o.reply ∷ [])) a)
  outcome_step k c cs l a free room =
      let o = single (rules tables) c l in
      let w : List ℕ = answers_in (o.reply ∷ []) in
      let ws : List ℕ = answers_in (replies (rules tables) cs o.store) in
      let sized : length w ≡ answer_size = single_answered tables c l free in
      let count : k + suc (length cs) ≡ k + 1 + length cs = omega arith in
      let joined : answers_in (replies (rules tables) (c ∷ cs) l) ≡ w ++ ws = answers_append (o.reply ∷ []) (replies (rules tables) cs o.store) in
      rw (count, joined, put_front k w a sized room, put_behind k w a sized room (length cs)) (simp append_assoc)

  module _ (sender body : List ℕ) where
    -- what holds as the records are taken: the calls from a place on are left, k are answered, and the end is as it was
    pub record Going (count : ℕ) (l₀ a₀ : List ℕ) (at k : ℕ) (l a : List ℕ) : Type 0 where
      pub now : Open tables sender body count at k l a
      pub long : length a ≡ length a₀
      pub same : outcome_from 0 (calls_from sender body 0) l₀ a₀ ≡ outcome_from k (calls_from sender body at) l a

    pub going_start : {count : ℕ} (l a : List ℕ) → Open tables sender body count 0 0 l a → Going count l a 0 0 l a
    going_start l a h = record { now = h; long = refl; same = refl }

    -- while records are left, one stands at the place
    still_more : {count : ℕ} (at k : ℕ) {l a : List ℕ} → Open tables sender body count at k l a → k < count → at < length body
    still_more at k h left = go (leb (length body) at) refl
      where
        go : (b : Bool) → leb (length body) at ≡ b → at < length body
        go true e =
            let none : length (calls_from sender body at) ≡ 0
            = ap (λ (r : Records). length (map (called sender) (listed r))) (lines_end body at (leb-true _ _ e)) in
            let counted = h.counted in
            absurd (omega arith)
        go false e = leb-false _ _ e

    module _ (count : ℕ) (l₀ a₀ : List ℕ) (at k : ℕ) (l a : List ℕ) (g : Going count l₀ a₀ at k l a) (left : k < count) where
      more : at < length body
      more = still_more at k g.now left

      -- the calls that are left are the record's at this place, and those from the next place on
      module _ (next : ℕ) (e : line_end body at ≡ Some next) where
        split : (records_of (drop next body) ≡ records (listed (records_of (drop next body))))
            × (calls_from sender body at ≡ called sender (record_at body at) ∷ calls_from sender body next)
        split = let w = lines_split body at more g.now.whole next e in (w.0, ap (map (called sender)) w.1)

        free : (refusal_of tables (called sender (record_at body at)) (ledger_flaw l) ≡ 0) × Admitted tables (calls_from sender body next)
        free =
            let h : Admitted tables (called sender (record_at body at) ∷ calls_from sender body next) = rw split.1 at g.now.admitted in
            (ap (refusal_of tables (called sender (record_at body at))) g.now.in_order ∙ h.0, h.1)

        room : k * answer_size + answer_size ≤ length a
        room =
            let count : length (calls_from sender body at) ≡ suc (length (calls_from sender body next)) = ap length split.1 in
            let counted = g.now.counted in
            let r = g.now.room in
            omega arith

      pub going_ready : Ready tables sender body at k l a
      going_ready = go (line_end body at) refl
        where
          go : (p : Option ℕ) → line_end body at ≡ p → Ready tables sender body at k l a
          go (Some next) e = record { more = more; line = line_there body at more g.now.whole; admitted = (free next e).0; room = room next e }
          go None e = absurd (line_there body at more g.now.whole e)

      pub going_step : (next : ℕ) (l' a' : List ℕ) → Taken tables sender body at k l a next l' a' → Going count l₀ a₀ next (k + 1) l' a'
      going_step next l' a' t =
          let call : Call = called sender (record_at body at) in
          let e = t.line in
          let sized = single_answered tables call l (free next e).0 in
          let long : length a' ≡ length a
          = ap length t.buffer ∙ put_length answer_size k (answers_in ((single (rules tables) call l).reply ∷ [])) a (room next e) sized in
          let count : length (calls_from sender body at) ≡ suc (length (calls_from sender body next)) = ap length (split next e).1 in
          let counted = g.now.counted in
          let r = g.now.room in
          record {
            now = record {
              whole = (split next e).0;
              counted = omega arith;
              admitted = (free next e).1;
              in_order = ap ledger_flaw t.store ∙ after_in_order tables (call ∷ []) l g.now.in_order;
              room = rw long (omega arith);
            };
            long = long ∙ g.long;
            same =
                g.same
                ∙ rw ((split next e).1, t.buffer, t.store) (outcome_step k call (calls_from sender body next) l a (free next e).0 (room next e));
          }

    -- once all are taken, all is done
    pub going_done : (count : ℕ) (l₀ a₀ : List ℕ) (at k : ℕ) (l a : List ℕ) → Going count l₀ a₀ at k l a → count ≤ k
        → file_outcome (accepted count) l a ≡ carried_out tables (accepted (calls_from sender body 0)) l₀ a₀
    unfolding carried_out answers_in
    going_done count l₀ a₀ at k l a g h =
        let counted = g.now.counted in
        let none : calls_from sender body at ≡ [] = nil_from_length _ (omega arith) in
        let same : k ≡ count = omega arith in
        let last : outcome_from k [] l a ≡ file_outcome (accepted count) l a
        = (let e : k + 0 ≡ k = omega arith in
        rw e (ap (file_outcome (accepted k) l) (take-append-drop (k * answer_size) a) ∙ ap (λ (n : ℕ). file_outcome (accepted n) l a) same)) in
        let all : ℕ = length (calls_from sender body 0) in
        let first : carried_out tables (accepted (calls_from sender body 0)) l₀ a₀ ≡ outcome_from 0 (calls_from sender body 0) l₀ a₀
        = (let e : 0 + all ≡ all = omega arith in
        rw (e, in_a_row_ledger tables (calls_from sender body 0) l₀, in_a_row_replies tables (calls_from sender body 0) l₀)) in
        sym (first ∙ g.same ∙ rw none last)
