use Rattle.std.proofs.Common.{◌≡◌, Some, ap, sym, ◌∙◌, arith}
use Rattle.std.specs.List.{fold}
use Rattle.std.specs.FinMap as finite
use Rattle.mesh_base.specs.Sides.{above}
use Rattle.mesh_base.proofs.WalkSteps.{walk-start, above-step, above-end}
use Rattle.mesh_plain.specs.Copying.{with_vertex_of}
use Rattle.mesh_plain.proofs.tables.Tables.put_vertices.Goals as goal

pub loop-v-init : goal.loop-v-init
loop-v-init g c =
    let m = g.S.Surface.mesh c.args.mesh.now in
    ap (fold (with_vertex_of m) c.args.self.now) (walk-start m.points (λ q h. ((g.met.S.Surface.sound c.args.mesh.now).is_mesh.vertex_ids q h).0))

pub loop-v-smaller : goal.loop-v-smaller
loop-v-smaller g c =
    let m = g.S.Surface.mesh c.args.mesh.now in
    let rest = above-step m.points c.loop-v.last c.v.inside.0 (sym c.in-Some.ensures ∙ ap Some (sym c.v.view_is)) in
    rw rest (omega arith)

pub loop-v-preserved : goal.loop-v-preserved
loop-v-preserved g c =
    let m = g.S.Surface.mesh c.args.mesh.now in
    let rest = above-step m.points c.loop-v.last c.v.inside.0 (sym c.in-Some.ensures ∙ ap Some (sym c.v.view_is)) in
    let put : c.put_vertex.new.self ≡ with_vertex_of m c.loop-v.self c.v.inside.0 = c.in_ok-put_vertex.ensures ∙ ap (with_vertex_of m c.loop-v.self) (sym c.v.view_is) in
    ap (λ t. fold (with_vertex_of m) t (above c.v.inside.0 (finite.keys m.points))) put
    ∙ sym (ap (fold (with_vertex_of m) c.loop-v.self) rest)
    ∙ c.loop-v.invariant

pub returns : goal.returns
returns g c =
    let m = g.S.Surface.mesh c.args.mesh.now in
    let none = above-end c.loop-v.last (finite.keys m.points) (sym c.vertex_after.ensures ∙ c.in_default.is) in
    sym (ap (fold (with_vertex_of m) c.loop-v.self) none) ∙ c.loop-v.invariant
