use Rattle.fields.proofs.FieldLaws.{view_inside, lies_field}
use Rattle.fields.proofs.field.Goals as goal

pub cut-requires : goal.cut-requires
cut-requires c = view_inside _ _ c.field_place.ensures

pub returns : goal.returns
returns c =
    let a = c.args in
    lies_field a.«record» a.n c.field_place.ensures c.cut.ensures
