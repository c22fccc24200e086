-- The text of a saved mesh is read again.
use Rattle.std.proofs.Common.{◌≡◌, ℕ, ◌≤◌, List, [], ◌∷◌, map, refl, ap, ◌∙◌}
use Rattle.std.specs.FinMap as finite
use Rattle.grid_base.specs.declared.Point.{Point}
use Rattle.grid_base.specs.declared.TheConstants.{DECIMALS_MAX}
use Rattle.grid_base.specs.Points.{position_of, point_at}
use Rattle.grid_base.proofs.PointLaws.{point_at-position_of}
use Rattle.mesh_base.specs.declared.Scale.{Scale}
use Rattle.mesh_base.specs.Mesh.{Mesh, IsSound}
use Rattle.mesh_base.specs.Sides.{IsClosed}
use Rattle.mesh_base.specs.Placements.{IsClearMesh}
use Rattle.mesh_base.specs.Given.{mesh_under}
use Rattle.obj_text.specs.Written.{ranks}
use Rattle.obj_text.proofs.Again.{written_is_read_lem}
use Rattle.obj_text.proofs.Renumbered.{stays_closed_lem, stays_clear_lem}
use Rattle.track_engine.specs.Kept.{FitsScale, IsReadAgain}
use Rattle.track_engine.proofs.ShapeAgain.{sound_again, shape_again}

-- a point is where it stands
points_again : (es : List (ℕ × Point)) → map point_at (map (λ e. position_of e.1) es) ≡ map (λ e. e.1) es
points_again [] = refl
points_again (e ∷ es) = ap (λ (q : Point). q ∷ map point_at (map (λ x. position_of x.1) es)) (point_at-position_of e.1) ∙ ap (λ (qs : List Point). e.1 ∷ qs) (points_again es)

pub read_again : (m : Mesh) → IsSound m → IsClosed m → IsClearMesh m → (scale : Scale) (decimals : ℕ) → FitsScale scale m → decimals ≤ DECIMALS_MAX → IsReadAgain scale decimals m
read_again m sound closed clear scale decimals fits few = record {
  lists = written_is_read_lem m decimals sound few;
  shape = shape_again scale m sound fits (stays_closed_lem scale m sound closed);
  sound = sound_again scale m sound fits;
  mesh = ap (λ (ps : List Point). mesh_under scale ps (map (λ e. ranks m e.1) (finite.entries m.faces))) (points_again (finite.entries m.points));
  closed = stays_closed_lem scale m sound closed;
  clear = stays_clear_lem scale m sound clear;
}
