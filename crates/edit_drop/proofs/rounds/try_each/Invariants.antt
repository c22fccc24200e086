use Rattle.std.proofs.Common.{◌≡◌, ◌++◌, drop}
use Rattle.mesh_base.specs.Sides.{IsClosed}
use Rattle.mesh_base.specs.Placements.{IsClearMesh}
use Rattle.mesh_base.specs.Kept.{BeginsWith}
use Rattle.edit_drop.specs.Drop.{after_each, done_of}
use Rattle.edit_drop.proofs.rounds.try_each.Given as goal

-- those tried so far and those to come are all
abbrev pub invariant-loop-what : goal.invariant-loop-what
invariant-loop-what g l =
    let now = g.S.Surface.mesh l.mesh in
    let first = g.S.Surface.mesh l.fn.mesh in
    let rest = drop l.what-index l.asked in
    record {
      mesh : after_each l.depth now rest ≡ after_each l.depth first l.asked;
      done : l.done ++ done_of l.depth now rest ≡ l.fn.done ++ done_of l.depth first l.asked;
      closed : IsClosed now;
      clear : IsClearMesh now;
      marks : BeginsWith (g.S.Surface.kept l.mesh) (g.S.Surface.kept l.fn.mesh);
    }
