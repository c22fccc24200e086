-- When a flip is tried.
use Rattle.std.specs.Prelude.{◌≡◌, ◌==◌, ◌||◌, false}
use Rattle.mesh_base.specs.Mesh.{Mesh}
use Rattle.mesh_base.specs.Pairs.{is_edge, is_crowded}
use Rattle.mesh_base.specs.Limits.{is_over_limits}
use Rattle.edit_base.specs.Edges.{Edge}
use Rattle.edit_flip.specs.Flip.{flip_scaffold}
use Rattle.edit_base.specs.Required.{HasEdge}

-- the edge is there and not crowded, the other edge may be made, and the split on which
-- the flip is tested passes no limit
pub record MayBeTried (m : Mesh) (s : Edge) : Type 0 where
  pub edge : HasEdge m s
  pub one_face_each_way : is_crowded m s.a s.b ≡ false
  pub other_may_be_made : ((s.c == s.d) || is_edge m s.c s.d) ≡ false
  pub fits : is_over_limits (flip_scaffold m s).mesh ≡ false
