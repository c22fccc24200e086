use Rattle.std.proofs.Common.{refl, ap, ◌∙◌}
use Rattle.std.specs.FinMap as finite
use Rattle.grid_base.specs.Triples.{plus}
use Rattle.mesh_base.specs.Placements.{rest_positions}
use Rattle.mesh_base.specs.Shifts.{with_moves}
use Rattle.mesh_base.proofs.Moves.{own-with_moves, faces-with_moves}
use Rattle.mesh_measure.specs.Volume.{face_sum, face_volume}
use Rattle.mesh_measure.proofs.VolumeLaws.{volume_shifted}
use Rattle.mesh_measure.proofs.laws.volume_has_no_origin.Goals as goal

pub returns-clause-placed : goal.returns-clause-placed
returns-clause-placed c = λ m sound closed at t. volume_shifted m at (λ v. plus (at v) t) t sound closed (λ v live. refl)

pub returns-clause-moved : goal.returns-clause-moved
returns-clause-moved c = λ m moves t sound closed all.
    ap (λ faces. face_sum (face_volume (rest_positions (with_moves m moves))) (finite.entries faces)) (faces-with_moves m moves)
    ∙ volume_shifted m (rest_positions m) (rest_positions (with_moves m moves)) t sound closed (λ v live. own-with_moves m moves v all.once.once all.inside ∙ ap (plus (rest_positions m v)) (all.same v live))
