use Rattle.std.proofs.Common.{sym, subst, ◌∙◌}
use Rattle.pass_run.specs.VertexRims.{AreRims}
use Rattle.pass_run.proofs.RimChains.{fan_told}
use Rattle.pass_run.proofs.vertex_rims.is_one_fan.Goals as goal

pub returns : goal.returns
returns g c =
    let m = g.S.Surface.mesh c.args.mesh.now in
    fan_told m c.args.v c.as_slice.result.now c.as_slice-2.result.now c.are_linked.result
    (c.as_slice.ensures.value ∙ c.in_ok-faces_at.ensures.ok)
    (subst (AreRims m c.args.v c.as_slice.result.now) (sym c.as_slice-2.ensures.value) (c.in_ok-put_rims.ensures c.if-not-branch.false))
    c.are_linked.ensures
