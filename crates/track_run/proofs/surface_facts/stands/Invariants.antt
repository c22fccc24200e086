use Rattle.std.proofs.Common.{◌≡◌, drop}
use Rattle.std.specs.List.{list_any}
use Rattle.mesh_base.specs.Sides.{faces_running}
use Rattle.track_run.specs.Surface.{is_there_at}
use Rattle.track_run.proofs.surface_facts.stands.Given as goal

-- one has the corners where one of those that are left has
abbrev pub invariant-loop-nth : goal.invariant-loop-nth
invariant-loop-nth g l =
    let m = g.S.Surface.mesh l.fn.mesh in
    list_any (λ f. is_there_at m l.c f) (drop l.nth (faces_running m l.c.first l.c.second)) ≡ list_any (λ f. is_there_at m l.c f) (faces_running m l.c.first l.c.second)
