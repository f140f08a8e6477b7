-- Laws of sound compartments: what their rows have, what look-ups find in them, and the two steps that keep every row sound.
-- Assumes nothing.
use Prim.Native.Nat.{ℕ, ◌+◌, ◌*◌, ◌≤◌, ◌<◌}
use native.Mathlib.Decide.{ℕ_discrete, dec_lt}
use native.Mathlib.Omega.{arith}
use mathlib.Core.Path.{◌≡◌, refl, ap, sym, ◌∙◌}
use mathlib.Core.Bool.{Bool, true, false, ◌&&◌, cond}
use mathlib.Core.List.{List, []}
use mathlib.Core.Logic.{◌≢◌}
use lib.Dec.{eqb, ltb}
use lib.ListN.{length, drop_of_length-le}
use lib.Seq.{take-nil}
use borrow.Author.Tests.{eqb-true, eqb-false, eq-eqb, ne_eqb, ltb-true, lt-ltb, not-true}
use Rattle.frame.specs.Every.{every, least}
use Rattle.frame.specs.Parts.{part, put}
use Rattle.frame.proofs.BoolLaws.{and_left, and_right, and_intro}
use Rattle.frame.proofs.EveryLaws.{every_at, every_intro, every_same}
use Rattle.frame.proofs.LeastLaws.{least_hit, least_below}
use Rattle.frame.proofs.PartLaws.{part_length, part_put, part_put_other, put_length}
use Rattle.text.specs.Bytes.{same}
use Rattle.ledger.specs.Row.{row_size, free, live, cancelled, cancellation, no_partner, state, filled_row, number, partner, row_form}
use Rattle.ledger.specs.Sound.{row_count, compartment_size, Rows, rows_of, points_back, linked, precedes, sound_row, sound_compartment}
use Rattle.ledger.specs.Lookup.{first_row, is_free, has_number, is_live, free_row, row_by_number, live_row}

pub sound_size : (c : List ℕ) → sound_compartment c ≡ true → length c ≡ compartment_size
unfolding sound_compartment
sound_size c h = eqb-true _ _ (and_left (eqb (length c) compartment_size) _ h)

pub sound_rows : (c : List ℕ) → sound_compartment c ≡ true → (k : ℕ) → k < row_count → sound_row (rows_of c) k ≡ true
unfolding sound_compartment
sound_rows c h = every_at row_count _ (and_right (eqb (length c) compartment_size) _ h)

pub rows_sound : (c : List ℕ) → length c ≡ compartment_size → ((k : ℕ) → k < row_count → sound_row (rows_of c) k ≡ true) → sound_compartment c ≡ true
unfolding sound_compartment
rows_sound c z f = and_intro (eqb (length c) compartment_size) _ (eq-eqb _ _ z) (every_intro row_count _ f)

pub row_inside : (c : List ℕ) → length c ≡ compartment_size → (k : ℕ) → k < row_count → k * row_size + row_size ≤ length c
row_inside c z k h = omega arith

pub row_length : (c : List ℕ) → length c ≡ compartment_size → (k : ℕ) → k < row_count → length (rows_of c k) ≡ row_size
row_length c z k h = part_length row_size k c (row_inside c z k h)

-- past the last row there is nothing
row_beyond : (c : List ℕ) → length c ≡ compartment_size → (k : ℕ) → row_count ≤ k → rows_of c k ≡ []
unfolding part
row_beyond c z k h = rw (drop_of_length-le c {i = k * row_size} (omega arith)) (take-nil row_size)

-- the rows after row k is replaced
module _ (k : ℕ) (w c : List ℕ) (sized : length c ≡ compartment_size) (kh : k < row_count) (long : length w ≡ row_size) where
  pub put_size : length (put row_size k w c) ≡ compartment_size
  put_size = put_length row_size k w c (row_inside c sized k kh) long ∙ sized

  pub put_here : rows_of (put row_size k w c) k ≡ w
  put_here = part_put row_size k w c (row_inside c sized k kh) long

  pub put_there : (j : ℕ) → j ≢ k → rows_of (put row_size k w c) j ≡ rows_of c j
  put_there j ne = go (dec_lt j row_count)
    where
      go : Dec (j < row_count) → rows_of (put row_size k w c) j ≡ rows_of c j
      go (yes h) = part_put_other row_size k w c (row_inside c sized k kh) long j ne (row_inside c sized j h)
      go (no h) = let past : row_count ≤ j = omega arith in row_beyond (put row_size k w c) put_size j past ∙ sym (row_beyond c sized j past)

-- what a sound filled row has
pub record Filled (ρ : Rows) (k : ℕ) : Type 0 where
  pub form : row_form (ρ k) ≡ true
  pub earlier : every k (precedes ρ (number (ρ k))) ≡ true
  pub link : linked ρ k ≡ true

module _ (ρ : Rows) (k : ℕ) where
  pub filled_row_lem : state (ρ k) ≢ free → sound_row ρ k ≡ true → Filled ρ k
  unfolding sound_row
  filled_row_lem ne h =
      let before : Bool = every k (precedes ρ (number (ρ k))) in
      let g : row_form (ρ k) && (before && linked ρ k) ≡ true = rw (ne_eqb (state (ρ k)) free ne) at h in
      let t : before && linked ρ k ≡ true = and_right (row_form (ρ k)) _ g in
      record { form = and_left (row_form (ρ k)) _ g; earlier = and_left before _ t; link = and_right before _ t }

  pub row_filled : state (ρ k) ≢ free → Filled ρ k → sound_row ρ k ≡ true
  unfolding sound_row
  row_filled ne F = rw (ne_eqb (state (ρ k)) free ne, F.form, F.earlier) F.link

  -- a row before a filled one is filled
  pub earlier_filled : Filled ρ k → (j : ℕ) → j < k → state (ρ j) ≢ free
  unfolding precedes
  earlier_filled F j h = eqb-false _ _ (not-true _ (and_left (filled_row (ρ j)) _ (every_at k _ F.earlier j h)))

-- a link is kept where the rows that take part in links stay
chosen_kept : (b d x l m m' u v w w' : Bool) → (l ≡ true → m ≡ true → m' ≡ true) → (v ≡ true → w ≡ true → w' ≡ true)
    → cond b x (cond d (l && m) (u && (v && w))) ≡ true → cond b x (cond d (l && m') (u && (v && w'))) ≡ true
chosen_kept true d x l m m' u v w w' f g h = h
chosen_kept false true x l m m' u v w w' f g h = and_intro l m' (and_left l m h) (f (and_left l m h) (and_right l m h))
chosen_kept false false x l m m' u v w w' f g h =
    let t : v && w ≡ true = and_right u (v && w) h in
    and_intro u _ (and_left u (v && w) h) (and_intro v w' (and_left v w t) (g (and_left v w t) (and_right v w t)))

module _ (ρ σ : Rows) (stays : (q : ℕ) → q < row_count → cancelled ≤ state (ρ q) → σ q ≡ ρ q) where
  back_kept : (q s k : ℕ) → q < row_count → cancelled ≤ s → points_back ρ q s k ≡ true → points_back σ q s k ≡ true
  unfolding points_back
  back_kept q s k qh sh h = rw (stays q qh (omega (arith, eqb-true (state (ρ q)) s (and_left (eqb (state (ρ q)) s) _ h)))) h

  pub link_kept : (k : ℕ) → k < row_count → σ k ≡ ρ k → linked ρ k ≡ true → linked σ k ≡ true
  unfolding linked
  link_kept k kh e h =
      let q : ℕ = partner (ρ k) in
      rw e
      (chosen_kept (eqb (state (ρ k)) live) (eqb (state (ρ k)) cancellation) _
      (ltb q k) (points_back ρ q cancelled k) (points_back σ q cancelled k)
      (ltb k q) (ltb q row_count) (points_back ρ q cancellation k) (points_back σ q cancellation k)
      (λ t. back_kept q cancelled k (omega (arith, ltb-true q k t)) (omega arith))
      (λ t. back_kept q cancellation k (ltb-true q row_count t) (omega arith))
      h)

-- An original: row f, the first free one, gets a new live row with a number of its own.
module _ (ρ σ : Rows) (f : ℕ) (fh : f < row_count) (sound : (k : ℕ) → k < row_count → sound_row ρ k ≡ true)
    (freed : state (ρ f) ≡ free) (first : (j : ℕ) → j < f → state (ρ j) ≢ free)
    (form : row_form (σ f) ≡ true) (lives : state (σ f) ≡ live) (lone : partner (σ f) ≡ no_partner)
    (other : (q : ℕ) → q < row_count → q ≢ f → σ q ≡ ρ q)
    (fresh : (j : ℕ) → j < f → same (number (ρ j)) (number (σ f)) ≡ false) where
  before_new : (k : ℕ) → k < f → sound_row σ k ≡ true
  unfolding precedes
  before_new k h =
      let e : σ k ≡ ρ k = other k (omega arith) (omega arith) in
      let F : Filled ρ k = filled_row_lem ρ k (first k h) (sound k (omega arith)) in
      row_filled σ k (rw e (first k h))
      (record {
        form = rw e F.form;
        earlier = every_same k _ _ (precede e) ∙ F.earlier;
        link = link_kept ρ σ stays k (omega arith) e F.link;
      })
    where
      precede : σ k ≡ ρ k → (j : ℕ) → j < k → precedes σ (number (σ k)) j ≡ precedes ρ (number (ρ k)) j
      precede e j jh = rw (e, other j (omega arith) (omega arith))

      stays : (q : ℕ) → q < row_count → cancelled ≤ state (ρ q) → σ q ≡ ρ q
      stays q qh h = other q qh (λ e. omega (arith, ap (λ (m : ℕ). state (ρ m)) e))

  at_new : sound_row σ f ≡ true
  unfolding linked precedes
  at_new = row_filled σ f (omega arith) (record { form = form; earlier = every_intro f _ precede; link = rw (lives, lone) })
    where
      precede : (j : ℕ) → j < f → precedes σ (number (σ f)) j ≡ true
      precede j h = rw (other j (omega arith) (omega arith), ne_eqb (state (ρ j)) free (first j h), fresh j h)

  after_new : (k : ℕ) → k < row_count → f < k → sound_row σ k ≡ true
  unfolding sound_row
  after_new k kh h = go (ℕ_discrete (state (ρ k)) free)
    where
      go : Dec (state (ρ k) ≡ free) → sound_row σ k ≡ true
      go (yes z) = let t = eq-eqb (state (ρ k)) free z in rw (other k kh (omega arith), t) (rw t at (sound k kh))
      go (no ne) = absurd (earlier_filled ρ k (filled_row_lem ρ k ne (sound k kh)) f h freed)

  pub new_sound : (k : ℕ) → k < row_count → sound_row σ k ≡ true
  new_sound k kh = go (ℕ_discrete k f) (dec_lt k f)
    where
      go : Dec (k ≡ f) → Dec (k < f) → sound_row σ k ≡ true
      go (yes e) d = rw e at_new
      go (no ne) (yes lt) = before_new k lt
      go (no ne) (no ge) = after_new k kh (omega arith)

-- row v is in form, with the number of row w, the state s and the partner q
pub record Relinked (s q : ℕ) (w v : List ℕ) : Type 0 where
  pub form : row_form v ≡ true
  pub named : number v ≡ number w
  pub stated : state v ≡ s
  pub pointing : partner v ≡ q

-- A cancellation: of two live rows the later, f, becomes a cancellation and the earlier, p, cancelled, and they point at each other.
module _ (ρ σ : Rows) (p f : ℕ) (ph : p < f) (fh : f < row_count) (sound : (k : ℕ) → k < row_count → sound_row ρ k ≡ true)
    (liveP : state (ρ p) ≡ live) (liveF : state (ρ f) ≡ live)
    (at_p : Relinked cancelled f (ρ p) (σ p)) (atF : Relinked cancellation p (ρ f) (σ f))
    (other : (q : ℕ) → q < row_count → q ≢ p → q ≢ f → σ q ≡ ρ q) where
  -- every row keeps its number, and stays filled or free
  same_number : (q : ℕ) → q < row_count → number (σ q) ≡ number (ρ q)
  same_number q qh = go (ℕ_discrete q p) (ℕ_discrete q f)
    where
      go : Dec (q ≡ p) → Dec (q ≡ f) → number (σ q) ≡ number (ρ q)
      go (yes e) d = rw e at_p.named
      go (no n) (yes e) = rw e atF.named
      go (no n) (no m) = rw (other q qh n m)

  same_filled : (q : ℕ) → q < row_count → filled_row (σ q) ≡ filled_row (ρ q)
  same_filled q qh = go (ℕ_discrete q p) (ℕ_discrete q f)
    where
      go : Dec (q ≡ p) → Dec (q ≡ f) → filled_row (σ q) ≡ filled_row (ρ q)
      go (yes e) d = rw (e, at_p.stated, liveP)
      go (no n) (yes e) = rw (e, atF.stated, liveF)
      go (no n) (no m) = rw (other q qh n m)

  pub linked_number : (m : List ℕ) (q : ℕ) → q < row_count → has_number σ m q ≡ has_number ρ m q
  linked_number m q qh = rw (same_filled q qh, same_number q qh)

  same_earlier : (k : ℕ) → k < row_count → Filled ρ k → every k (precedes σ (number (σ k))) ≡ true
  unfolding precedes
  same_earlier k kh F = every_same k _ _ precede ∙ F.earlier
    where
      precede : (j : ℕ) → j < k → precedes σ (number (σ k)) j ≡ precedes ρ (number (ρ k)) j
      precede j jh = rw (same_filled j (omega arith), same_number j (omega arith), same_number k kh)

  at_cancelled : sound_row σ p ≡ true
  unfolding linked points_back
  at_cancelled =
      let F : Filled ρ p = filled_row_lem ρ p (omega arith) (sound p (omega arith)) in
      row_filled σ p (omega (arith, at_p.stated)) (record { form = at_p.form; earlier = same_earlier p (omega arith) F; link = own })
    where
      own : linked σ p ≡ true
      own = rw (at_p.stated, at_p.pointing, lt-ltb p f ph, lt-ltb f row_count fh, atF.stated, atF.pointing) (eq-eqb p p refl)

  at_cancellation : sound_row σ f ≡ true
  unfolding linked points_back
  at_cancellation =
      let F : Filled ρ f = filled_row_lem ρ f (omega arith) (sound f fh) in
      row_filled σ f (omega (arith, atF.stated)) (record { form = atF.form; earlier = same_earlier f fh F; link = own })
    where
      own : linked σ f ≡ true
      own = rw (atF.stated, atF.pointing, lt-ltb p f ph, at_p.stated, at_p.pointing) (eq-eqb f f refl)

  elsewhere : (k : ℕ) → k < row_count → k ≢ p → k ≢ f → sound_row σ k ≡ true
  unfolding sound_row
  elsewhere k kh n m = go (ℕ_discrete (state (ρ k)) free)
    where
      e : σ k ≡ ρ k
      e = other k kh n m

      stays : (q : ℕ) → q < row_count → cancelled ≤ state (ρ q) → σ q ≡ ρ q
      stays q qh h =
          other q qh (λ e. omega (arith, ap (λ (m : ℕ). state (ρ m)) e)) (λ e. omega (arith, ap (λ (m : ℕ). state (ρ m)) e))

      go : Dec (state (ρ k) ≡ free) → sound_row σ k ≡ true
      go (yes z) = let t = eq-eqb (state (ρ k)) free z in rw (e, t) (rw t at (sound k kh))
      go (no ne) =
          let F : Filled ρ k = filled_row_lem ρ k ne (sound k kh) in
          row_filled σ k (rw e ne)
          (record { form = rw e F.form; earlier = same_earlier k kh F; link = link_kept ρ σ stays k kh e F.link })

  pub linked_sound : (k : ℕ) → k < row_count → sound_row σ k ≡ true
  linked_sound k kh = go (ℕ_discrete k p) (ℕ_discrete k f)
    where
      go : Dec (k ≡ p) → Dec (k ≡ f) → sound_row σ k ≡ true
      go (yes e) d = rw e at_cancelled
      go (no n) (yes e) = rw e at_cancellation
      go (no n) (no m) = elsewhere k kh n m

-- what the first row that passes a test is, and what those before it are
module _ (c : List ℕ) (t : ℕ → Bool) where
  pub first_row_lem : length c ≡ compartment_size → first_row c t ≡ least row_count t
  first_row_lem z = rw (eq-eqb _ _ z)

  pub first_passes : first_row c t < row_count → t (first_row c t) ≡ true
  first_passes = go (eqb (length c) compartment_size)
    where
      go : (b : Bool) → cond b (least row_count t) row_count < row_count → t (cond b (least row_count t) row_count) ≡ true
      go true h = least_hit row_count t h
      go false h = absurd (omega arith)

  pub first_fails : length c ≡ compartment_size → (j : ℕ) → j < first_row c t → t j ≡ false
  first_fails z j h = least_below row_count t j (rw (first_row_lem z) at h)

pub free_row_free : (c : List ℕ) → free_row c < row_count → state (rows_of c (free_row c)) ≡ free
unfolding free_row
free_row_free c h = eqb-true _ _ (first_passes c (is_free (rows_of c)) h)

pub filled_before : (c : List ℕ) → length c ≡ compartment_size → (j : ℕ) → j < free_row c → state (rows_of c j) ≢ free
unfolding free_row
filled_before c z j h = eqb-false _ _ (first_fails c (is_free (rows_of c)) z j h)

pub live_row_live : (c m : List ℕ) → live_row c m < row_count → state (rows_of c (live_row c m)) ≡ live
unfolding live_row
live_row_live c m h = eqb-true _ _ (and_left (eqb (state (rows_of c (live_row c m))) live) _ (first_passes c (is_live (rows_of c) m) h))

-- a number that no row has is another than each filled row's
pub fresh_number : (c n : List ℕ) → length c ≡ compartment_size → row_by_number c n ≡ row_count → (j : ℕ) → j < row_count → state (rows_of c j) ≢ free
    → same (number (rows_of c j)) n ≡ false
unfolding row_by_number
fresh_number c n z e j h ne = rw (ne_eqb _ _ ne) at (first_fails c (has_number (rows_of c) n) z j (rw e h))

-- a live row of a sound compartment stands before a free one
pub live_before : (c : List ℕ) → sound_compartment c ≡ true → (p f : ℕ) → p < row_count → state (rows_of c p) ≡ live → state (rows_of c f) ≡ free → p < f
live_before c sound p f ph lives freed = go (ℕ_discrete p f) (dec_lt p f)
  where
    go : Dec (p ≡ f) → Dec (p < f) → p < f
    go (yes e) d = absurd (omega (arith, ap (λ (m : ℕ). state (rows_of c m)) e))
    go (no ne) (yes lt) = lt
    go (no ne) (no ge) =
        absurd (earlier_filled (rows_of c) p (filled_row_lem (rows_of c) p (omega arith) (sound_rows c sound p ph)) f (omega arith) freed)
