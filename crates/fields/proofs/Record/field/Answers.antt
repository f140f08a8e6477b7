use Rattle.fields.proofs.FieldLaws.{lent_inside}
use Rattle.fields.proofs.Record.field.Goals as goal

pub cut-requires : goal.cut-requires
cut-requires c = lent_inside _ _ _ c.place.ensures
