-- A vertex has no more fans than the mesh has faces.
use Rattle.std.proofs.Common.{ℕ, ◌≤◌, ◌==◌, Bool, not, refl, length, slice_index, arith}
use Rattle.std.proofs.lemmas.List.{length-map}
use Rattle.std.proofs.lemmas.List.Filters.{length-filter_both}
use Rattle.std.specs.List.{filter}
use Rattle.std.specs.FinMap as finite
use Rattle.std.specs.FinMap.{len-entries}
use Rattle.grid_base.specs.declared.TheConstants.{FACES_MAX}
use Rattle.mesh_base.specs.Mesh.{Mesh, IsSound}
use Rattle.mesh_base.specs.Sides.{has_corner, faces_at}
use Rattle.mesh_base.proofs.Ordered.{length-ids_where}
use Rattle.edit_base.specs.Classes.{class_of}
use Rattle.edit_pinch.specs.Pinch.{share_second, fans}
use Rattle.mesh_base.proofs.MeshLaws.{few_live_faces}

few_faces : (m : Mesh) (v : ℕ) → IsSound m → length (faces_at m v) ≤ FACES_MAX
few_faces m v sound =
    let some = length-ids_where (λ c. has_corner c v) (finite.entries m.faces) in
    let all = len-entries m.faces in
    let most = few_live_faces m sound in
    omega (arith, some, all, most)

pub few_fans : (m : Mesh) (v : ℕ) → IsSound m → length (fans m v) ≤ FACES_MAX
few_fans m v sound =
    let all = faces_at m v in
    let first : ℕ → Bool = λ x. slice_index (class_of (share_second m v) all x) 0 == x in
    let one = length-map (filter first all) (λ x. class_of (share_second m v) all x) in
    let two = length-filter_both first (λ x. not (first x)) (λ x. refl) all in
    let most = few_faces m v sound in
    omega (arith, one, two, most)
