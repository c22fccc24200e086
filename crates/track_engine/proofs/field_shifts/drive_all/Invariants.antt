use Rattle.std.proofs.Common.{take}
use Rattle.mesh_field.specs.Stored.{MayAnswer}
use Rattle.track_engine.proofs.DriveLemmas.{Driving}
use Rattle.track_engine.proofs.field_shifts.drive_all.Given as goal

-- the vertices so far were asked
abbrev pub invariant-loop-s : goal.invariant-loop-s
invariant-loop-s g l = Driving (MayAnswer g.F.Fn l.fields l.which) (g.S.Surface.mesh l.mesh) (take l.s-index l.asked) l.shifts l.beyond
