-- When a split is tried.
use Rattle.std.specs.Prelude.{◌≡◌, false}
use Rattle.mesh_base.specs.Mesh.{Mesh}
use Rattle.mesh_base.specs.Pairs.{is_crowded}
use Rattle.mesh_base.specs.Limits.{is_over_limits}
use Rattle.edit_base.specs.Edges.{Edge}
use Rattle.edit_split.specs.Split.{split_scaffold}
use Rattle.edit_base.specs.Required.{HasEdge}

-- the edge is there and not crowded, and its split passes no limit
pub record MayBeTried (m : Mesh) (s : Edge) : Type 0 where
  pub edge : HasEdge m s
  pub one_face_each_way : is_crowded m s.a s.b ≡ false
  pub fits : is_over_limits (split_scaffold m s).mesh ≡ false
