use Rattle.std.proofs.Common.{◌≡◌, drop}
use Rattle.track_engine.specs.Effects.{moved_mesh}
use Rattle.mesh_base.specs.Kept.{BeginsWith}
use Rattle.track_engine.specs.Placing.{CanPlace}
use Rattle.track_engine.proofs.placement.place_all.Given as goal

-- those to come can be placed, and make of the mesh what all make of the first
abbrev pub invariant-loop-s : goal.invariant-loop-s
invariant-loop-s g l = record {
  can : CanPlace (g.S.Surface.mesh l.mesh) (drop l.s-index l.asked);
  made : moved_mesh (g.S.Surface.mesh l.mesh) (drop l.s-index l.asked) ≡ moved_mesh (g.S.Surface.mesh l.fn.mesh) l.asked;
  marks : BeginsWith (g.S.Surface.kept l.mesh) (g.S.Surface.kept l.fn.mesh);
}
