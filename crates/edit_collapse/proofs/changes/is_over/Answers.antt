use Rattle.std.proofs.Common.{◌+◌, nat_lt, length, sym, ap, ◌∙◌}
use Rattle.edit_collapse.specs.Collapse.{collapse_point}
use Rattle.edit_collapse.proofs.Room.{over_is}
use Rattle.edit_collapse.proofs.changes.is_over.Goals as goal

pub returns : goal.returns
returns g c =
    let m = g.S.Surface.mesh c.args.mesh.now in
    (λ i. nat_lt (c.from-2.ensures i + 1) ((c.from.ensures ∙ c.next_face.ensures) i + (c.len.ensures ∙ ap length c.in_ok-joining.ensures.faces) i))
    ∙ sym (over_is m c.args.a c.args.b (g.met.S.Surface.sound c.args.mesh.now) c.requires.apart (collapse_point m c.args.a c.args.b))
