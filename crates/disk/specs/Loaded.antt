-- What a file that is read leaves in the buffer that it is read into.
-- Assumes nothing.
use Rattle.std.specs.Prelude.{ℕ, Result, Ok, Err}
use Rattle.disk.specs.declared.Unread.{Unread}

-- how many bytes of the buffer it filled: all of its own, as far as there is room, or those before what could not be read
abbrev pub filled : Result ℕ Unread → ℕ
filled (Ok n) = n
filled (Err unread) = unread.bytes
