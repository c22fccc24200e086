use Rattle.std.proofs.Common.{◌≤◌, ◌+◌, drop}
use Rattle.mesh_base.specs.Pairs.{edges}
use Rattle.pass_run.specs.Places.{HasPlaces}
use Rattle.pass_run.specs.Results.{stage}
use Rattle.pass_run.proofs.EdgeTurns.{edges_left}
use Rattle.pass_run.proofs.Stages.{SoFar}
use Rattle.pass_run.proofs.edge_pass.take_edges.Given as goal

-- The lines written, and those of the edges that are left from the mesh as it is, are all. The list has the places of that mesh.
abbrev pub invariant-loop-e : goal.invariant-loop-e
invariant-loop-e g l =
    let surface = g.S.Surface in
    let around = g.O.Outside.around in
    let first = stage surface.mesh surface.kept around l.fn.mesh l.fn.outside in
    let now = stage surface.mesh surface.kept around l.mesh l.outside in
    record {
      so_far : SoFar first now l.terms.grouped (edges_left l.terms now.mesh (drop l.e-index l.e-items)) (edges_left l.terms first.mesh (edges first.mesh)) l.count;
      places : HasPlaces now.mesh l.places.items;
      sum : l.count.done + l.count.refused ≤ l.e-index;
    }
