-- The page that code writes on: a lent buffer, with the place where its text ends.
-- Assumes nothing.
use Rattle.std.specs.Prelude.{ℕ, List}
use Rattle.std.specs.Borrow.{Bor}
use Rattle.page.specs.Page.{Page, page, appended}
use Rattle.page.specs.declared.Page.{Page as Lent}

-- the page that it is
abbrev pub page_of : Lent → Page
page_of p = page p.room.now p.end

-- its buffer, as lent to one who reads it
abbrev pub room_of : Lent → Bor (List ℕ)
room_of p = record { ref_ptr = p.room.ref_ptr; now = p.room.now }

-- the same buffer, where it is lent, as a page says that it is
abbrev pub with_page : Lent → Page → Lent
with_page p q = record p { room = record p.room { now = q.buffer }; end = q.end }

-- a text more in it; it stays lent as it is
unfoldable pub with_text : Lent → List ℕ → Lent
with_text p t = with_page p (appended (page_of p) t)
