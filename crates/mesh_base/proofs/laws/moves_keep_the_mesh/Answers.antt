use Rattle.std.proofs.Common.{sym, ◌∙◌}
use Rattle.mesh_base.proofs.Moves.{own-with_moves, live-with_moves, faces-with_moves, next_vertex-with_moves, next_face-with_moves, limits-with_moves, sound-with_moves, closed-with_moves, pair_before_moves, pair_after_moves}
use Rattle.mesh_base.proofs.laws.moves_keep_the_mesh.Goals as goal

pub returns : goal.returns
returns c = record {
  places = λ m moves names inside v. own-with_moves m moves v names.once inside;
  live = λ m moves names v. (λ h. sym (live-with_moves m moves v names.live) ∙ h, λ h. live-with_moves m moves v names.live ∙ h);
  faces = faces-with_moves;
  next_vertex = next_vertex-with_moves;
  next_face = next_face-with_moves;
  limits = limits-with_moves;
  sound = λ m moves sound names. sound-with_moves m moves sound names.live;
  closed = closed-with_moves;
  pairs = λ m moves p. (pair_before_moves m moves p, pair_after_moves m moves p);
}
