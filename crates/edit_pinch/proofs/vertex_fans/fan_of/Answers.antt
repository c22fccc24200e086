use Rattle.std.proofs.Common.{◌≡◌, ap, subst, ◌∙◌}
use Rattle.std.specs.Prelude.{IfOk}
use Rattle.std.specs.List.{filter}
use Rattle.edit_base.specs.Classes.{is_one_of}
use Rattle.edit_pinch.specs.Pinch.{share_second}
use Rattle.edit_pinch.proofs.Growing.{in_order}
use Rattle.edit_pinch.proofs.vertex_fans.fan_of.Goals as goal

pub returns : goal.returns
returns g c =
    subst (λ all. IfOk c.in_order.result (λ fan. fan ≡ all))
    (ap (λ l. filter (is_one_of l) c.args.faces.now) c.as_slice.ensures
    ∙ in_order (share_second (g.S.Surface.mesh c.args.mesh.now) c.args.v) c.args.faces.now c.args.f c.in_ok-members.field-0.0 c.in_ok-members.ensures.found)
    c.in_order.ensures
