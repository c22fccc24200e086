use Rattle.std.proofs.Common.{ap, subst, ◌∙◌}
use Rattle.std.specs.List.{All}
use Rattle.std.specs.FinMap as finite
use Rattle.std.proofs.lemmas.List.Elements.{recursion_from_All}
use Rattle.mesh_base.proofs.Listed.{all_map, at_key}
use Rattle.pair_paths.specs.declared.MovingFace.{MovingFace}
use Rattle.pair_paths.specs.Moving.{moving_face, moving_faces}
use Rattle.neighbour_list.specs.Clusters.{IsCovered}
use Rattle.neighbour_list.specs.Listed.{near_along_edges}
use Rattle.neighbour_list.proofs.Made.{near_of_mesh}
use Rattle.neighbour_list.proofs.neighbour_list.NeighbourList.of.Goals as goal

pub returns-clause-list : goal.returns-clause-list
returns-clause-list g c =
    let m = g.S.Surface.mesh c.args.mesh.now in
    let w = g.P.Paths.motion c.args.at.now in
    let skin = c.args.skin in
    let edges = c.as_slice-2.ensures ∙ c.in_ok-edges.ensures in
    let faces = c.as_slice-3.ensures ∙ c.in_ok-faces.ensures in
    let cs = c.in_ok-clusters.clusters in
    let has : MovingFace → Type 0 = λ x. IsCovered cs x.corners in
    record {
      at = w.start;
      references = c.in_ok-clusters.ensures.at;
      covered = λ f d is. at_key (λ e. IsCovered cs e.1) m.faces f d
          (all_map has (moving_face w) (finite.entries m.faces) (recursion_from_All has (moving_faces m w) (subst (All has) (c.as_slice-4.ensures ∙ c.in_ok-faces.ensures) c.in_ok-clusters.ensures.covered))) is;
      pairs = c.in_ok-pairs.ensures ∙ ap (λ fs. near_along_edges skin w fs c.as_slice-2.result.now) faces ∙ ap (near_along_edges skin w (moving_faces m w)) edges ∙ near_of_mesh m w skin;
    }

pub returns-clause-references : goal.returns-clause-references
returns-clause-references g c = c.in_ok-clusters.ensures.at
