use Rattle.std.proofs.Common.{◌≡◌, drop}
use Rattle.track_held.specs.Folds.{crowded_among}
use Rattle.track_held.proofs.folds.crowded_among.Given as goal

-- the first of all is the first of those to come
abbrev pub invariant-loop-f : goal.invariant-loop-f
invariant-loop-f g l = crowded_among (g.S.Surface.mesh l.mesh) l.v l.faces ≡ crowded_among (g.S.Surface.mesh l.mesh) l.v (drop l.f-index l.faces)
