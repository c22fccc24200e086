use Rattle.std.proofs.Common.{◌≡◌, ◌++◌, drop}
use Rattle.pair_candidates.specs.Told.{told_along}
use Rattle.pair_candidates.specs.Views.{AreViews}
use Rattle.pair_candidates.proofs.scan.told_of_edges.Given as goal

-- what is put so far, and what the edges that are left make, is all; and the views have the faces' boxes
abbrev pub invariant-loop-a : goal.invariant-loop-a
invariant-loop-a g l =
    let test = g.A.PairTest.test l.scan.test.now in
    let what = g.A.PairTest.what in
    let w = g.P.Paths.motion l.scan.paths.now in
    let faces = l.scan.faces.now in
    record {
      put : l.found ++ told_along test what w faces (drop l.a-index l.scan.edges.now) ≡ told_along test what w faces l.scan.edges.now;
      views : AreViews faces l.views;
    }
