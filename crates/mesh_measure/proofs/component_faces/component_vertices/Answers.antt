use Rattle.std.proofs.Common.{◌≡◌, ◌==◌, ℕ, List, [], ◌∷◌, Some, sym, ap, subst, ◌∙◌}
use Rattle.std.specs.Prelude.{slice_get}
use Rattle.mesh_base.specs.Sides.{has_corner, faces_at}
use Rattle.edit_base.specs.Classes.{is_one_of}
use Rattle.edit_base.specs.Edges.{corners_at}
use Rattle.edit_base.proofs.Chains.{Has, either_first, equal_itself}
use Rattle.mesh_measure.proofs.Around.{listed_passes}
use Rattle.mesh_measure.proofs.Classing.{there_key}
use Rattle.mesh_measure.proofs.component_faces.component_vertices.Goals as goal

-- the first of a list is one of it
first_has : (xs : List ℕ) (f : ℕ) → slice_get xs 0 ≡ Some f → Has xs f
first_has [] f is = absurd cc
first_has (x ∷ xs) f is = let same : x ≡ f = cc in subst (λ y. Has (x ∷ xs) y) same (either_first (x == x) (is_one_of xs x) (equal_itself x))

pub vertices_with-requires-clause-live : goal.vertices_with-requires-clause-live
vertices_with-requires-clause-live g c =
    let m = g.S.Surface.mesh c.args.mesh.now in
    let v = c.args.v in
    let f = c.in-Some.f in
    let is : slice_get (faces_at m v) 0 ≡ Some f = ap (λ xs. slice_get xs 0) (sym (c.as_slice.ensures.value ∙ c.in_ok-faces_at.ensures.ok)) ∙ sym c.in-Some.ensures in
    let at = listed_passes m (λ c. has_corner c v) f (first_has (faces_at m v) f is) in
    there_key m f (corners_at m f) at.0

pub vertices_with-requires-clause-corner : goal.vertices_with-requires-clause-corner
vertices_with-requires-clause-corner g c =
    let m = g.S.Surface.mesh c.args.mesh.now in
    let v = c.args.v in
    let f = c.in-Some.f in
    let is : slice_get (faces_at m v) 0 ≡ Some f = ap (λ xs. slice_get xs 0) (sym (c.as_slice.ensures.value ∙ c.in_ok-faces_at.ensures.ok)) ∙ sym c.in-Some.ensures in
    (listed_passes m (λ c. has_corner c v) f (first_has (faces_at m v) f is)).1
