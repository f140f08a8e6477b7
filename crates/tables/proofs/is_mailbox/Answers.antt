use mathlib.Core.Path.{refl}
use Rattle.tables.specs.Reporters.{mailbox_form}
use Rattle.tables.proofs.is_mailbox.Goals as goal

pub returns : goal.returns
unfolding mailbox_form
returns c =
    rw (c.is_name.ensures, c.all.ensures, c.rest.ensures.bytes, c.mailbox_bytes.ensures, c.mailbox_of-name.ensures) refl
