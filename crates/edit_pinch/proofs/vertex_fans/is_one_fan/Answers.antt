use Rattle.edit_pinch.proofs.OneFan.{one_fan, no_items}
use Rattle.edit_pinch.proofs.vertex_fans.is_one_fan.Goals as goal

pub returns-in_ok-left-in-Some : goal.returns-in_ok-left-in-Some
returns-in_ok-left-in-Some g c empty =
    one_fan (g.S.Surface.mesh c.args.mesh.now) c.args.v c.args.faces.now c.in-Some.f.now c.in_ok-left-in-Some.field-0.0 c.requires c.in-Some.ensures.value
    c.in_ok-left-in-Some.ensures.found (c.in_ok-left-in-Some.ensures.all (no_items c.in_ok-left-in-Some.field-0.1 c.len.result c.len.ensures empty))
