-- No count of a scale is too great for a word of a line.
use Rattle.std.proofs.Common.{◌<◌, ◌^◌, arith}
use Rattle.mesh_base.specs.declared.Scale.{Scale}
use Rattle.mesh_base.specs.Limits.{limits_of}
use Rattle.mesh_base.proofs.MeshLaws.{few_vertices_of, few_faces_of}
use Rattle.log_read.specs.Reading.{rounds_most}

pub small_vertices : (scale : Scale) → (limits_of scale).vertices < 2 ^ 64
small_vertices scale = omega (arith, few_vertices_of scale)

pub small_faces : (scale : Scale) → (limits_of scale).faces < 2 ^ 64
small_faces scale = omega (arith, few_faces_of scale)

pub small_rounds : (scale : Scale) → rounds_most scale < 2 ^ 64
small_rounds scale = omega (arith, few_vertices_of scale)
