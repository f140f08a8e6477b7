-- What a call returns, in the terms of document 01, "Refused calls": the number of its refusal, or what an accepted call gives.
-- Assumes nothing.
use Rattle.std.specs.Prelude.{ℕ, Bool, cond, List, [], ◌∷◌, eqb}

pub data Reply (A : Type 0) : Type 0 where
  refused : ℕ → Reply A
  accepted : A → Reply A

-- the number of the refusal, 0 for none
abbrev pub refusal_in : {A : Type 0} → Reply A → ℕ
refusal_in (refused n) = n
refusal_in (accepted a) = 0

-- the same reply, with f of what an accepted call gives
abbrev pub map_reply : {A B : Type 0} → (A → B) → Reply A → Reply B
map_reply f (refused n) = refused n
map_reply f (accepted a) = accepted (f a)

-- the number of a refusal unless what it asks holds; 0 where it does
unfoldable pub unless : Bool → ℕ → ℕ
unless holds n = cond holds 0 n

-- the first refusal of several that applies, 0 for none: the refusals of a call in their order
unfoldable pub first_of : List ℕ → ℕ
first_of [] = 0
first_of (n ∷ ns) = cond (eqb n 0) (first_of ns) n

-- refused by a number; where that is 0, what comes behind it
unfoldable pub past : {A : Type 0} → ℕ → Reply A → Reply A
past n w = cond (eqb n 0) w (refused n)
