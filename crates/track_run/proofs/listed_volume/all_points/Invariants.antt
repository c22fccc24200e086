use Rattle.std.proofs.Common.{◌≡◌, length}
use Rattle.track_run.specs.Places.{ArePlaced}
use Rattle.track_run.proofs.listed_volume.all_points.Given as goal

-- the ids so far have their points
abbrev pub invariant-loop-v : goal.invariant-loop-v
invariant-loop-v g l = record {
  placed : ArePlaced (g.S.Surface.mesh l.mesh) l.points.items;
  long : length l.points.items ≡ l.v;
}
