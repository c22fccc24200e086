use Rattle.std.proofs.Common.{◌≡◌, map, take}
use Rattle.edit_base.specs.Edges.{corners_at}
use Rattle.track_run.proofs.surface_facts.corners_of_each.Given as goal

-- the corners of the faces so far
abbrev pub invariant-loop-f : goal.invariant-loop-f
invariant-loop-f g l = l.all.items ≡ map (λ f. corners_at (g.S.Surface.mesh l.mesh) f) (take l.f-index l.faces)
