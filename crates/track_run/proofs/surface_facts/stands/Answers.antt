use Rattle.std.proofs.Common.{sym, ◌∙◌}
use Rattle.mesh_base.specs.Sides.{faces_running}
use Rattle.track_run.specs.Surface.{is_there_at}
use Rattle.track_run.proofs.SurfaceSteps.{any_at, any_past}
use Rattle.track_run.proofs.surface_facts.stands.Goals as goal

pub returns-then-is_nth : goal.returns-then-is_nth
returns-then-is_nth g c =
    let m = g.S.Surface.mesh c.args.mesh.now in
    sym (any_at (λ f. is_there_at m c.args.c.now f) (faces_running m c.args.c.now.first c.args.c.now.second) c.loop-nth.nth (sym c.is_nth.ensures ∙ c.if-is_nth.true)) ∙ c.loop-nth.invariant

pub loop-nth-preserved : goal.loop-nth-preserved
loop-nth-preserved g c =
    let m = g.S.Surface.mesh c.args.mesh.now in
    any_past (λ f. is_there_at m c.args.c.now f) (faces_running m c.args.c.now.first c.args.c.now.second) c.loop-nth.nth (sym c.is_nth.ensures ∙ c.if-is_nth.false) ∙ c.loop-nth.invariant
