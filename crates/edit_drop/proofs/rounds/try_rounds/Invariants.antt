use Rattle.std.proofs.Common.{◌≡◌, ◌++◌, drop}
use Rattle.mesh_base.specs.Sides.{IsClosed}
use Rattle.mesh_base.specs.Placements.{IsClearMesh}
use Rattle.mesh_base.specs.Kept.{BeginsWith}
use Rattle.edit_drop.specs.Drop.{after_rounds, done_in_rounds}
use Rattle.edit_drop.proofs.rounds.try_rounds.Given as goal

-- the rounds so far and those to come are all
abbrev pub invariant-loop-turn : goal.invariant-loop-turn
invariant-loop-turn g l =
    let now = g.S.Surface.mesh l.mesh in
    let first = g.S.Surface.mesh l.fn.mesh in
    let turns = drop l._turn-index l.vs in
    record {
      mesh : after_rounds turns l.depth l.vs now ≡ after_rounds l.vs l.depth l.vs first;
      done : l.done ++ done_in_rounds turns l.depth l.vs now ≡ l.fn.done ++ done_in_rounds l.vs l.depth l.vs first;
      closed : IsClosed now;
      clear : IsClearMesh now;
      marks : BeginsWith (g.S.Surface.kept l.mesh) (g.S.Surface.kept l.fn.mesh);
    }
