-- Item 5 of document 02 for any rules: calls that come with an earlier answer, and are refused by a number of their own where that does not fit.
-- Assumes nothing.
use Rattle.std.specs.Prelude.{ℕ, Bool, true, List, [], ◌∷◌, ◌≡◌}
use Rattle.frame.specs.Reply.{unless, first_of}
use Rattle.frame.specs.Isolation.{Rules}

-- a call with an earlier answer, which may be any bytes
pub record WithEarlier (Call : Type 0) : Type 0 where
  pub call : Call
  pub earlier : List ℕ

module _ (R : Rules) (fits : R.Call → List ℕ → Bool) (number : ℕ) where
  -- the refusals of the call itself come first, then the earlier answer's
  unfoldable pub earlier_refusal : WithEarlier R.Call → ℕ → ℕ
  earlier_refusal b n = first_of (R.refusal b.call n ∷ unless (fits b.call b.earlier) number ∷ [])

  -- the same rules for calls with an earlier answer: once it fits, nothing depends on it
  abbrev pub with_earlier : Rules
  with_earlier = record {
    Call = WithEarlier R.Call;
    Answer = R.Answer;
    Store = R.Store;
    State = R.State;
    banks = R.banks;
    own = R.own;
    keep = R.keep;
    flaw = R.flaw;
    refusal = earlier_refusal;
    bank = λ b. R.bank b.call;
    stranger = λ b. R.stranger b.call;
    judge = λ b. R.judge b.call;
    next = λ b. R.next b.call;
  }

  -- every call of a list has an earlier answer that fits, or is refused whatever it comes with
  abbrev pub AllFit : List (WithEarlier R.Call) → Type 0
  AllFit [] = Unit {0}
  AllFit (b ∷ bs) = ((n : ℕ) → R.refusal b.call n ≡ 0 → fits b.call b.earlier ≡ true) × AllFit bs
