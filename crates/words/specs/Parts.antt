-- The parts of a text between single bytes, as an iterator gives them one by one.
-- Assumes nothing.
use Rattle.std.specs.Prelude.{ℕ, List, ◌≡◌, ◌<◌, ◌≤◌, ◌-◌, length, drop, Option, MatchOption}
use Rattle.std.specs.Borrow.{Bor}
use Rattle.std.specs.Iterator.{Count, at_most}
use Rattle.text.specs.Part.{Lies}
use Rattle.words.specs.Words.{before_first, next_place}
use Rattle.words.specs.declared.Parts.{Parts}

-- all parts of a text
abbrev pub parts_of : ℕ → Bor (List ℕ) → Parts
parts_of b s = record { text = s; at = 0; by = b }

-- the parts behind the first byte
abbrev pub behind_part : Parts → Parts
behind_part p = record { text = p.text; at = next_place p.by p.at p.text.now; by = p.by }

-- a call gave the text before the first byte from the place on, as a part of the whole, and went on behind that byte; at the end it gave none
abbrev pub GivesPart : Parts → Option (Bor (List ℕ)) → Parts → Type 0
GivesPart p r q = MatchOption r
    ((length p.text.now ≤ p.at) × (q ≡ p))
    (λ part. (p.at < length p.text.now) × Lies p.text p.at (before_first p.by (drop p.at p.text.now)) part × (q ≡ behind_part p))

-- no more parts come than bytes are left
abbrev pub parts_left : Parts → Count
parts_left p = at_most (length p.text.now - p.at)
