use Rattle.std.proofs.Common.{◌≡◌, drop}
use Rattle.track_engine.specs.Effects.{first_outside}
use Rattle.track_engine.specs.Placing.{AreLive}
use Rattle.track_engine.proofs.placement.first_outside.Given as goal

-- what is sought is sought among those to come, which are live
abbrev pub invariant-loop-s : goal.invariant-loop-s
invariant-loop-s g l = record {
  outside : first_outside (g.S.Surface.mesh l.mesh) (drop l.s-index l.asked) ≡ first_outside (g.S.Surface.mesh l.mesh) l.asked;
  live : AreLive (g.S.Surface.mesh l.mesh) (drop l.s-index l.asked);
}
