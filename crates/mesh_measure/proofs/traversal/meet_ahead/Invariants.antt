use Rattle.std.proofs.Common.{map, take}
use Rattle.edit_base.specs.Edges.{corners_at}
use Rattle.mesh_measure.specs.Round.{behind}
use Rattle.mesh_measure.specs.Walk.{Meets}
use Rattle.mesh_measure.proofs.traversal.meet_ahead.Given as goal

-- the corners behind v in the faces so far are met
abbrev pub invariant-loop-f : goal.invariant-loop-f
invariant-loop-f g l =
    let m = g.S.Surface.mesh l.mesh in
    Meets (map (λ f. behind (corners_at m f) l.v) (take l.f-index l.f-items)) l.fn.met l.met l.fn.queue l.queue
