-- What the marks of its ends say of a collapse.
use Rattle.std.specs.Prelude.{⊤, ◌≡◌, ◌≢◌, ℕ, false, true}
use Rattle.std.proofs.Common.{Some}
use Rattle.std.specs.FinMap as finite
use Rattle.grid_base.specs.declared.Point.{Point}
use Rattle.edit_base.specs.declared.answers.Change.{Change}
use Rattle.edit_base.specs.declared.answers.Change.TheVariants.{Collapse}
use Rattle.edit_base.specs.declared.answers.Edit.TheVariants.{Done}
use Rattle.mesh_base.specs.Mesh.{Mesh, IsLiveVertex, is_solid}
use Rattle.mesh_base.specs.Placements.{point_of}
use Rattle.edit_base.specs.Edges.{floor_mid}
use Rattle.edit_base.specs.Laws.{Answer}
use Rattle.edit_collapse.specs.Collapse.{are_both_solid, has_solid_end, collapse_mesh}

-- Not both ends are solid. The point is that of the end that is, or the
-- midpoint, rounded down, where neither is.
pub record GoesToSolidEnd (m : Mesh) (a b : ℕ) (at : Point) : Type 0 where
  pub one_at_most : are_both_solid m a b ≡ false
  pub first : is_solid m a ≡ true → at ≡ point_of m a
  pub second : is_solid m b ≡ true → at ≡ point_of m b
  pub neither : has_solid_end m a b ≡ false → at ≡ floor_mid (point_of m a) (point_of m b)

-- In the result a, if it is left, stands at the point and is solid exactly where an end was; each
-- other vertex that is left stands where it stood and is solid as it was.
pub record KeepsSolidEnd (m : Mesh) (a b : ℕ) (at : Point) : Type 0 where
  pub stands : IsLiveVertex (collapse_mesh m a b at) a →
      finite.get (collapse_mesh m a b at).points a ≡ Some at
  pub mark : IsLiveVertex (collapse_mesh m a b at) a →
      is_solid (collapse_mesh m a b at) a ≡ has_solid_end m a b
  pub others_stand : (v : ℕ) → v ≢ a → IsLiveVertex (collapse_mesh m a b at) v →
      finite.get (collapse_mesh m a b at).points v ≡ finite.get m.points v
  pub other_marks : (v : ℕ) → v ≢ a → IsLiveVertex (collapse_mesh m a b at) v →
      is_solid (collapse_mesh m a b at) v ≡ is_solid m v

-- both hold of a collapse; of another change nothing is said
abbrev pub SolidEndStays : Mesh → Change → Type 0
SolidEndStays m (Collapse a b at) = GoesToSolidEnd m a b at × KeepsSolidEnd m a b at
SolidEndStays m _ = ⊤

-- and so it is with each done collapse
abbrev pub SolidEndsStay : Answer → Type 0
SolidEndsStay answer =
    (m : Mesh) (change : Change) → answer m ≡ Done change → SolidEndStays m change
