use Rattle.std.proofs.Common.{◌++◌, length, sym, ap, ◌∙◌, arith}
use Rattle.edit_collapse.specs.Tried.{numbered}
use Rattle.edit_collapse.proofs.Acts.{joined_list}
use Rattle.edit_collapse.proofs.changes.joined_at.Goals as goal

pub put_numbered-requires-clause-first : goal.put_numbered-requires-clause-first
put_numbered-requires-clause-first g c =
    let limit = (g.met.S.Surface.sound c.args.mesh.now).limits.face_ids.1 in
    let next = c.next_face.ensures in
    omega (arith, limit, next)

pub put_numbered-requires-clause-few : goal.put_numbered-requires-clause-few
put_numbered-requires-clause-few g c =
    let few = c.in_ok-joining.ensures.few in
    let same = ap length c.as_slice.ensures in
    omega (arith, few, same)

pub returns : goal.returns
returns g c =
    let m = g.S.Surface.mesh c.args.mesh.now in
    let items = c.as_slice.ensures ∙ c.in_ok-joining.ensures.faces in
    c.in_ok-put_numbered.ensures
    ∙ (λ i. c.in_ok-faces.ensures.faces i ++ numbered c.args.b c.args.a (c.next_face.ensures i) (items i))
    ∙ sym (joined_list m c.args.a c.args.b (g.met.S.Surface.sound c.args.mesh.now) c.requires)
