use Rattle.std.proofs.lemmas.Int.{to_z-of_z}
use Rattle.line_text.proofs.ByParts.{shift_of_parts}
use Rattle.line_text.proofs.components.shift_with.Goals as goal

pub returns : goal.returns
returns c = shift_of_parts _ c.args.x c.args.y c.args.z (to_z-of_z _ _ c.ranges.x) (to_z-of_z _ _ c.ranges.y) (to_z-of_z _ _ c.ranges.z)
