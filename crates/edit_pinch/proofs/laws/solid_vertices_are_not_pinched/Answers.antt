use Rattle.edit_pinch.proofs.SolidVertices.{pinches_none_solid, same_marks}
use Rattle.edit_pinch.proofs.laws.solid_vertices_are_not_pinched.Goals as goal

pub returns : goal.returns
returns c = record { answer = pinches_none_solid; marks = same_marks }
