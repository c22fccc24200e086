use Rattle.std.proofs.Common.{◌≡◌, List, sym, ap, ◌∙◌, rules}
use Rattle.mesh_base.specs.Mesh.{Mesh, IsLiveVertex}
use Rattle.mesh_base.specs.Changes.{with_solid}
use Rattle.log_run.proofs.OpenMarks.{stack_along, marks_along}
use Rattle.log_run.proofs.Calls.{solid}
use Rattle.log_run.proofs.lines.take_solid.Goals as goal

pub returns : goal.returns
returns g c =
    let beyond = g.S.Surface.beyond in
    let m = g.S.Surface.mesh c.args.mesh.now in
    let marks = c.args.at.now.marks in
    let settled = g.S.Surface.kept c.settle_if_none.new.mesh in
    let left = g.S.Surface.kept c.make_solid.new.self in
    let live : IsLiveVertex m c.args.v = search rules in
    solid beyond m (g.S.Surface.kept c.args.mesh.now) c.args.at.now c.requires c.if-at.false c.args.v (g.S.Surface.mesh c.make_solid.new.self) left live
    (c.in-Ok.ensures.ok ∙ ap (λ (x : Mesh). with_solid x c.args.v) c.settle_if_none.ensures.mesh)
    (marks_along beyond left settled marks c.make_solid.ensures.marks c.settle_if_none.ensures.marks)
    (stack_along beyond left settled marks c.make_solid.ensures.marks c.settle_if_none.ensures.marks ∙ c.settle_if_none.ensures.stack)
