-- A page: a buffer, and where the text that was written into it ends. Nothing is written behind the buffer's end.
-- Assumes nothing.
use Rattle.std.specs.Prelude.{ℕ, suc, cond, List, [], ◌∷◌, ◌++◌, leb, ltb, length, drop, set}
use Rattle.frame.specs.Reply.{Reply, refused, accepted, unless, past}

pub record Page : Type 0 where
  pub buffer : List ℕ
  pub end : ℕ

abbrev pub page : List ℕ → ℕ → Page
page s at = record { buffer = s; end = at }

-- a byte more; the page as it was where it is full
abbrev pub typed : Page → ℕ → Page
typed p b = cond (ltb p.end (length p.buffer)) (page (set p.buffer p.end b) (suc p.end)) p

-- a text more
unfoldable pub appended : Page → List ℕ → Page
appended p [] = p
appended p (b ∷ t) = appended (typed p b) t

-- What a call that writes a text into a lent buffer returns and leaves (document 02, Item 1: "the length is returned, the rest of the buffer left").
pub record WriteOutcome : Type 0 where
  pub reply : Reply ℕ
  pub buffer : List ℕ

abbrev pub write_outcome : Reply ℕ → List ℕ → WriteOutcome
write_outcome r s = record { reply = r; buffer = s }

-- refused: the buffer as it was; accepted: the text's length, and the text at the buffer's start
unfoldable pub wrote_into : List ℕ → Reply (List ℕ) → WriteOutcome
wrote_into s (refused n) = write_outcome (refused n) s
wrote_into s (accepted t) = write_outcome (accepted (length t)) (t ++ drop (length t) s)

-- refused by 19 where a buffer has too little room for the text
abbrev pub fitted : ℕ → List ℕ → Reply (List ℕ)
fitted room t = past (unless (leb (length t) room) 19) (accepted t)
