use Rattle.std.proofs.Common.{map, subst}
use Rattle.std.specs.List.{All}
use Rattle.std.proofs.lemmas.List.Elements.{All-from_recursion, recursion_from_All}
use Rattle.std.proofs.lemmas.List.Sorted.{All-permutation, IsPermutation-sym}
use Rattle.mesh_base.proofs.Listed.{all_map}
use Rattle.mesh_base.proofs.ListedPairs.{all_mapped}
use Rattle.mesh_base.specs.declared.ids.Corners.{Corners}
use Rattle.pair_paths.specs.declared.MovingFace.{MovingFace}
use Rattle.neighbour_list.specs.declared.order.OnCurve.{OnCurve}
use Rattle.neighbour_list.specs.Clusters.{IsCovered}
use Rattle.neighbour_list.proofs.clusters.clusters_of.Goals as goal

pub returns-clause-covered : goal.returns-clause-covered
returns-clause-covered g c =
    let P : Corners → Type 0 = IsCovered c.in_ok-clusters.clusters in
    let of_face : MovingFace → Corners = λ f. f.corners in
    let of_place : OnCurve → Corners = λ k. k.corners in
    let faces = c.args.faces.now in
    let placed = c.in_ok-placed.placed.items in
    let on : All (λ k. P (of_place k)) placed = subst (All (λ k. P (of_place k))) c.deref.ensures.value c.in_ok-clusters.ensures.covered in
    let there : All P (map of_place placed) = All-from_recursion P (map of_place placed) (all_mapped P of_place placed (recursion_from_All (λ k. P (of_place k)) placed on)) in
    let all : All P (map of_face faces) = All-permutation P (map of_place placed) (map of_face faces) (IsPermutation-sym (map of_face faces) (map of_place placed) c.in_ok-placed.ensures) there in
    All-from_recursion (λ f. P (of_face f)) faces (all_map P of_face faces (recursion_from_All P (map of_face faces) all))
