-- A pinch is of a vertex that is not solid, and changes no mark.
use Rattle.std.proofs.Common.{◌≡◌, ℕ, Bool, List, [], ◌∷◌, length, drop, nat_lt, refl, ◌∙◌}
use Rattle.std.specs.List.{fold, zip}
use Rattle.grid_base.specs.declared.Point.{Point}
use Rattle.grid_base.specs.declared.Positions.{Positions}
use Rattle.mesh_base.specs.Mesh.{Mesh, is_solid}
use Rattle.mesh_base.specs.Changes.{with_vertex, with_point}
use Rattle.mesh_base.specs.Limits.{is_over_limits}
use Rattle.edit_base.specs.declared.answers.Why.TheVariants.{OneFan, Solid, Full}
use Rattle.edit_base.specs.Edges.{with_renamed, with_all_renamed}
use Rattle.edit_base.specs.Reasons.{reason_if, hit_in}
use Rattle.edit_base.proofs.ReasonLaws.{done_is, none_first, does_not_hold}
use Rattle.edit_pinch.specs.Pinch.{fans, with_copy, pinch_mesh, pinch_scaffold}
use Rattle.edit_pinch.specs.Answer.{pinch_answer}
use Rattle.edit_pinch.specs.SolidVertices.{PinchesNoneSolid}

pub pinches_none_solid : (meets : Positions → Bool) (v depth : ℕ) → PinchesNoneSolid v (λ m. pinch_answer meets m v depth)
pinches_none_solid meets v depth m change done =
    let scaffold = pinch_scaffold m v in
    let fulls = reason_if (is_over_limits scaffold.mesh) Full ∷ hit_in meets scaffold depth ∷ [] in
    let solids = reason_if (is_solid m v) Solid ∷ fulls in
    let two = none_first (reason_if (nat_lt (length (fans m v)) 2) OneFan) solids (done_is _ _ _ done).0 in
    does_not_hold (is_solid m v) Solid (none_first (reason_if (is_solid m v) Solid) fulls two.1).0

solid-renamed : (v w : ℕ) (n : Mesh) (fs : List ℕ) → (with_all_renamed v w n fs).solid ≡ n.solid
solid-renamed v w n [] = refl
solid-renamed v w n (f ∷ fs) = solid-renamed v w (with_renamed v w n f) fs

solid-copies : (v : ℕ) (n : Mesh) (others : List (List ℕ)) (points : List Point) → (fold (with_copy v) n (zip others points)).solid ≡ n.solid
solid-copies v n [] points = refl
solid-copies v n (d ∷ ds) [] = refl
solid-copies v n (d ∷ ds) (p ∷ ps) = solid-copies v (with_copy v n (d, p)) ds ps ∙ solid-renamed v n.next_vertex (with_vertex n p) d

pub same_marks : (m : Mesh) (v : ℕ) (at : Point) (points : List Point) → (pinch_mesh m v at points).solid ≡ m.solid
same_marks m v at points = solid-copies v (with_point m v at) (drop 1 (fans m v)) points
