-- What may be made a face, and what is made.
use Rattle.std.specs.Prelude.{◌≡◌, List}
use Rattle.in_out.specs.InOut.{InOut, value_before, value_after}
use Rattle.edit_base.specs.Edges.{with_faces}
use Rattle.mesh_base.specs.declared.ids.Corners.{Corners}
use Rattle.mesh_base.specs.Mesh.{Mesh, AreLive, AreDifferent}

-- three different live vertices
abbrev pub MayBeMade : Mesh → Corners → Type 0
MayBeMade m c = AreLive m c × AreDifferent c

-- faces were made in order
abbrev pub FacesAreMade : {S : Type 0} → (S → Mesh) → InOut S → List Corners → Type 0
FacesAreMade mesh surface faces =
    mesh (value_after surface) ≡ with_faces (mesh (value_before surface)) faces

-- all is as it was: the mesh, and what is kept for marks
abbrev pub AllIsAsItWas : {S : Type 0} → (S → Mesh) → (S → List Mesh) → InOut S → Type 0
AllIsAsItWas mesh kept surface = (mesh (value_after surface) ≡ mesh (value_before surface))
    × (kept (value_after surface) ≡ kept (value_before surface))
