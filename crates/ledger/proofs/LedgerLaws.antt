-- Laws of a sound ledger as its compartments: what holds of each, what one of them put in its place leaves, and the number by which a ledger refuses.
-- Assumes nothing.
use Prim.Native.Nat.{ℕ, ◌*◌, ◌+◌, ◌≤◌, ◌<◌}
use native.Mathlib.Decide.{ℕ_discrete}
use native.Mathlib.Omega.{arith}
use mathlib.Core.Bool.{true}
use mathlib.Core.List.{List}
use mathlib.Core.Logic.{◌≢◌}
use mathlib.Core.Path.{◌≡◌, ◌∙◌}
use borrow.Author.Tests.{eqb-true, eq-eqb}
use lib.Dec.{eqb}
use lib.ListN.{length}
use Rattle.frame.specs.Parts.{part, put}
use Rattle.frame.proofs.BoolLaws.{and_left, and_right, and_intro}
use Rattle.frame.proofs.EveryLaws.{every_at, every_intro}
use Rattle.frame.proofs.PartLaws.{before, part_put, part_put_other, put_length, parts_ext}
use Rattle.frame.proofs.ReplyLaws.{unless_holds, unless_none}
use Rattle.ledger.specs.Sound.{compartment_size, bank_count, ledger_size, sound_compartment, sound_ledger, ledger_flaw}
use Rattle.ledger.proofs.SoundLaws.{sound_size}

pub flaw_none : (l : List ℕ) → sound_ledger l ≡ true → ledger_flaw l ≡ 0
unfolding ledger_flaw
flaw_none l h = unless_holds 4 h

pub flawless : (l : List ℕ) → ledger_flaw l ≡ 0 → sound_ledger l ≡ true
unfolding ledger_flaw
flawless l = unless_none (sound_ledger l) 4 (omega arith)

pub ledger_size_lem : (l : List ℕ) → sound_ledger l ≡ true → length l ≡ ledger_size
unfolding sound_ledger
ledger_size_lem l h = eqb-true _ _ (and_left (eqb (length l) ledger_size) _ h)

module _ (l : List ℕ) (h : sound_ledger l ≡ true) where
  pub sound_part : (r : ℕ) → r < bank_count → sound_compartment (part compartment_size r l) ≡ true
  unfolding sound_ledger
  sound_part = every_at bank_count _ (and_right (eqb (length l) ledger_size) _ h)

  inside : (r : ℕ) → r < bank_count → r * compartment_size + compartment_size ≤ length l
  inside r rh = rw (ledger_size_lem l h) (before compartment_size rh)

  -- a sound compartment put in its place: it stands there, the others stay, and the ledger is sound
  module _ (r : ℕ) (rh : r < bank_count) (c : List ℕ) (sound : sound_compartment c ≡ true) where
    pub own_put : part compartment_size r (put compartment_size r c l) ≡ c
    own_put = part_put compartment_size r c l (inside r rh) (sound_size c sound)

    pub other_put : (q : ℕ) → q < bank_count → q ≢ r → part compartment_size q (put compartment_size r c l) ≡ part compartment_size q l
    other_put q qh ne = part_put_other compartment_size r c l (inside r rh) (sound_size c sound) q ne (inside q qh)

    pub put_sound : sound_ledger (put compartment_size r c l) ≡ true
    unfolding sound_ledger
    put_sound =
        and_intro _ _ (eq-eqb _ _ (put_length compartment_size r c l (inside r rh) (sound_size c sound) ∙ ledger_size_lem l h))
        (every_intro bank_count _ (λ q qh. go q qh (ℕ_discrete q r)))
      where
        go : (q : ℕ) → q < bank_count → Dec (q ≡ r) → sound_compartment (part compartment_size q (put compartment_size r c l)) ≡ true
        go q qh (yes e) = rw (e, own_put) sound
        go q qh (no ne) = rw (other_put q qh ne) (sound_part q qh)

-- two sound ledgers are equal where their compartments are
pub ledger_ext : (l m : List ℕ) → sound_ledger l ≡ true → sound_ledger m ≡ true
    → ((r : ℕ) → r < bank_count → part compartment_size r l ≡ part compartment_size r m) → l ≡ m
ledger_ext l m h k = parts_ext compartment_size bank_count (omega arith) l m (ledger_size_lem l h) (ledger_size_lem m k)
