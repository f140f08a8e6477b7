-- Laws of a text that is written piece by piece.
-- Assumes nothing.
use Prim.Native.Nat.{ℕ, suc, ◌+◌, ◌≤◌, ◌<◌}
use native.Mathlib.Omega.{arith}
use native.Mathlib.Nat.{zero-add}
use native.Mathlib.Decide.{dec_lt}
use mathlib.Core.Bool.{Bool, true, false, cond}
use mathlib.Core.List.{List, [], ◌∷◌, ◌++◌}
use mathlib.Core.Path.{◌≡◌, refl, ap, sym, ◌∙◌, subst}
use borrow.Author.Tests.{lt-ltb, le-ltb, ltb-true, le-leb, lt-leb}
use lib.Dec.{ltb}
use lib.ListN.{length, take, drop, set, length-set, length-append, length-take, length-drop, take-append-drop, drop_of_length-le}
use lib.Seq.{sets, sets-eq}
use Rattle.frame.specs.Reply.{refused, accepted}
use Rattle.frame.proofs.ReplyLaws.{past_holds, past_fails}
use Rattle.page.specs.Page.{Page, page, typed, appended, write_outcome, wrote_into, fitted}

-- one text behind another
pub appended_both : (p : Page) (s t : List ℕ) → appended (appended p s) t ≡ appended p (s ++ t)
unfolding appended
appended_both p [] t = refl
appended_both p (b ∷ s) t = appended_both (typed p b) s t

-- a page stays as long as it is
typed_length : (p : Page) (b : ℕ) → length (typed p b).buffer ≡ length p.buffer
typed_length p b = go (ltb p.end (length p.buffer))
  where
    go : (room : Bool) → length (cond room (page (set p.buffer p.end b) (suc p.end)) p).buffer ≡ length p.buffer
    go true = length-set p.buffer p.end b
    go false = refl

kept_length : (p : Page) (t : List ℕ) → length (appended p t).buffer ≡ length p.buffer
unfolding appended
kept_length p [] = refl
kept_length p (b ∷ t) = kept_length (typed p b) t ∙ typed_length p b

pub appended_length : (p : Page) (t : List ℕ) {q : Page} → q ≡ appended p t → length q.buffer ≡ length p.buffer
appended_length p t e = ap (λ (x : Page). length x.buffer) e ∙ kept_length p t

-- a text that begins within the page ends there
typed_within : (p : Page) (b : ℕ) → p.end ≤ length p.buffer → (typed p b).end ≤ length (typed p b).buffer
typed_within p b h = go (ltb p.end (length p.buffer)) refl
  where
    go : (room : Bool) → ltb p.end (length p.buffer) ≡ room
        → (cond room (page (set p.buffer p.end b) (suc p.end)) p).end
        ≤ length (cond room (page (set p.buffer p.end b) (suc p.end)) p).buffer
    go true e = rw length-set (ltb-true p.end (length p.buffer) e)
    go false e = h

ends_within : (p : Page) (t : List ℕ) → p.end ≤ length p.buffer → (appended p t).end ≤ length (appended p t).buffer
unfolding appended
ends_within p [] h = h
ends_within p (b ∷ t) h = ends_within (typed p b) t (typed_within p b h)

pub appended_within : (p : Page) (t : List ℕ) {q : Page} → p.end ≤ length p.buffer → q ≡ appended p t → q.end ≤ length q.buffer
appended_within p t h e = subst (λ (x : Page). x.end ≤ length x.buffer) (sym e) (ends_within p t h)

-- nothing is written on a full page
pub appended_full : (s : List ℕ) (at : ℕ) (t : List ℕ) → length s ≤ at → page s at ≡ appended (page s at) t
unfolding appended
appended_full s at [] h = refl
appended_full s at (b ∷ t) h = rw (le-ltb _ _ h) (appended_full s at t h)

appended_byte : (s : List ℕ) (at b : ℕ) (t : List ℕ) → at < length s → appended (page s at) (b ∷ t) ≡ appended (page (set s at b) (suc at)) t
unfolding appended
appended_byte s at b t h = ap (λ (room : Bool). appended (cond room (page (set s at b) (suc at)) (page s at)) t) (lt-ltb at (length s) h)

-- nothing more of a text is nothing
pub appended_done : {q p : Page} (t : List ℕ) (i : ℕ) → length t ≤ i → appended q (drop i t) ≡ p → q ≡ p
unfolding appended
appended_done {q} t i h e = ap (appended q) (sym (drop_of_length-le t {i = i} h)) ∙ e

-- where there is room, the whole text stands on the page, and nothing else is changed
appended_sets : (s : List ℕ) (at : ℕ) (t : List ℕ) → at + length t ≤ length s → appended (page s at) t ≡ page (sets s at t) (at + length t)
unfolding appended
appended_sets s at [] h = ap (page s) (omega arith)
appended_sets s at (b ∷ t) h =
    appended_byte s at b t (omega arith)
    ∙ (appended_sets (set s at b) (suc at) t (rw length-set (omega arith)) ∙ ap (page (sets s at (b ∷ t))) (omega arith))

pub appended_room : (s : List ℕ) (at : ℕ) (t : List ℕ) → at + length t ≤ length s
    → appended (page s at) t ≡ page (take at s ++ t ++ drop (at + length t) s) (at + length t)
appended_room s at t h = appended_sets s at t h ∙ ap (λ (l : List ℕ). page l (at + length t)) (sets-eq t s at h)

-- where n bytes of it have room and no more, those stand on the page, and nothing else is changed
module _ (s : List ℕ) (at : ℕ) (t : List ℕ) (n : ℕ) (some : n ≤ length t) (room : at + n ≤ length s) (full : n < length t → length s ≤ at + n) where
  abbrev cut : List ℕ
  cut = take at s ++ take n t ++ drop (at + n) s

  first : appended (page s at) (take n t) ≡ page cut (at + n)
  first =
      let len : length (take n t) ≡ n = omega (arith, length-take n t) in
      appended_room s at (take n t) (rw len room) ∙ ap (λ (m : ℕ). page (take at s ++ take n t ++ drop (at + m) s) (at + m)) len

  others : Dec (n < length t) → page cut (at + n) ≡ appended (page cut (at + n)) (drop n t)
  others (yes lt) = appended_full cut (at + n) (drop n t) (simp (length-append, length-take, length-drop) (omega (arith, full lt)))
  others (no ge) = appended_done t n (omega arith) refl

  pub appended_cut : page cut (at + n) ≡ appended (page s at) t
  appended_cut =
      others (dec_lt n (length t))
      ∙ (ap (λ (p : Page). appended p (drop n t)) (sym first) ∙ appended_both (page s at) (take n t) (drop n t))
      ∙ ap (appended (page s at)) (take-append-drop n t)

-- so a text that has room is written into the buffer, and its length told; one that has not is refused
module _ (s t : List ℕ) where
  pub fitted_room : {s' : List ℕ} {n : ℕ} → length t ≤ length s → page s' n ≡ appended (page s 0) t
      → write_outcome (accepted n) s' ≡ wrote_into s (fitted (length s) t)
  unfolding wrote_into
  fitted_room {s'} {n} room e =
      let z : 0 + length t ≡ length t = zero-add (length t) in
      let stands : page s' n ≡ page (t ++ drop (length t) s) (length t)
      = e ∙ appended_room s 0 t (rw z room) ∙ ap (λ (m : ℕ). page (t ++ drop m s) m) z in
      ap (λ (p : Page). write_outcome (accepted p.end) p.buffer) stands
      ∙ ap (wrote_into s) (sym (past_holds 19 (accepted t) (le-leb _ _ room)))

  pub fitted_short : length s < length t → write_outcome (refused 19) s ≡ wrote_into s (fitted (length s) t)
  unfolding wrote_into
  fitted_short h = rw (past_fails 19 (accepted t) (omega arith) (lt-leb _ _ h)) refl
