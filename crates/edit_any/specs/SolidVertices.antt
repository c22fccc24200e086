-- What a done edit does to solid vertices.
use Rattle.std.specs.Prelude.{◌≡◌, ℕ, true}
use Rattle.std.specs.FinMap as finite
use Rattle.mesh_base.specs.Mesh.{Mesh, IsSound, IsLiveVertex, is_solid}
use Rattle.mesh_base.specs.Sides.{IsClosed}
use Rattle.edit_base.specs.declared.answers.Change.{Change}
use Rattle.edit_base.specs.declared.answers.Change.TheVariants.{Collapse}
use Rattle.edit_base.specs.declared.answers.Edit.TheVariants.{Done}
use Rattle.edit_base.specs.Laws.{Answer}
use Rattle.edit_any.specs.Dispatch.{edited}

-- the vertex is the end of an edge that a collapse leaves
abbrev pub IsJoinedEnd : Change → ℕ → Type 0
IsJoinedEnd (Collapse a b at) v = v ≡ a
IsJoinedEnd _ v = ⊥

-- From one mesh to the next, which a change makes of it:
pub record SolidVerticesStay (m : Mesh) (change : Change) (next : Mesh) : Type 0 where
  -- a solid vertex that is left stands where it stood,
  pub stand : (v : ℕ) → is_solid m v ≡ true → IsLiveVertex next v →
      finite.get next.points v ≡ finite.get m.points v
  -- and is solid;
  pub remain : (v : ℕ) → is_solid m v ≡ true → IsLiveVertex next v → is_solid next v ≡ true
  -- no other one becomes solid, but the end that a collapse leaves;
  pub marks : (v : ℕ) → IsLiveVertex m v → IsLiveVertex next v → ¬ (IsJoinedEnd change v) →
      is_solid next v ≡ is_solid m v
  -- and a new one is not solid
  pub none_new : (v : ℕ) → is_solid next v ≡ true → IsLiveVertex m v

-- so it is with each done edit of a sound and closed mesh
abbrev pub SolidVerticesAlwaysStay : Answer → Type 0
SolidVerticesAlwaysStay answer = (m : Mesh) (change : Change) → IsSound m → IsClosed m →
    answer m ≡ Done change → SolidVerticesStay m change (edited m change)
