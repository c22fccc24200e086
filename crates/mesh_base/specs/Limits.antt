-- How many vertices and faces may be live, and whether a mesh would pass a limit.
use Rattle.std.specs.Prelude.{ℕ, ◌+◌, ◌||◌, Bool, nat_lt}
use Rattle.std.specs.FinMap as finite
use Rattle.grid_base.specs.declared.TheConstants.{VERTICES_MAX, FACES_MAX, STANDARD_VERTICES, STANDARD_FACES, ID_MAX}
use Rattle.grid_base.specs.declared.TheConstants.{TEXT_MAX, STANDARD_TEXT}
use Rattle.mesh_base.specs.declared.limits.Limits.{Limits}
use Rattle.mesh_base.specs.declared.limits.Scale.{Scale}
use Rattle.mesh_base.specs.declared.limits.Scale.TheVariants.{Standard, Large}
use Rattle.mesh_base.specs.Mesh.{Mesh}

-- those of a mesh whose maker asks for no large ones
abbrev pub standard_limits : Limits
standard_limits = record { vertices = STANDARD_VERTICES; faces = STANDARD_FACES }

-- the greatest that there are
abbrev pub large_limits : Limits
large_limits = record { vertices = VERTICES_MAX; faces = FACES_MAX }

-- the limits of the meshes of a job
abbrev pub limits_of : Scale → Limits
limits_of Standard = standard_limits
limits_of Large = large_limits

-- the greatest length of the texts of a job
abbrev pub text_most : Scale → ℕ
text_most Standard = STANDARD_TEXT
text_most Large = TEXT_MAX

-- the mesh with other limits
abbrev pub under : Limits → Mesh → Mesh
under limits m = record m { limits = limits }

-- whether so many live vertices, live faces and next ids are more than there may be
abbrev pub are_over : Limits → ℕ → ℕ → ℕ → ℕ → Bool
are_over limits vertices faces next_vertex next_face =
    nat_lt limits.vertices vertices || nat_lt limits.faces faces
    || nat_lt (ID_MAX + 1) next_vertex || nat_lt (ID_MAX + 1) next_face

-- more live vertices, live faces or ids made than there may be
abbrev pub is_over_limits : Mesh → Bool
is_over_limits m =
    are_over m.limits (finite.len m.points) (finite.len m.faces) m.next_vertex m.next_face
