use Rattle.std.proofs.Common.{◌≡◌, ◌++◌, ℕ, List, take, length, get_or, is_some, ap, sym, ◌∙◌, arith}
use Rattle.std.specs.List.{flat_map}
use Rattle.std.specs.FinMap as finite
use Rattle.std.proofs.lemmas.List.{take_all}
use Rattle.obj_text.specs.Written.{vertex_line}
use Rattle.obj_text.proofs.Lookups.{text_of_found, key_is_live, text_of_all}
use Rattle.obj_text.proofs.LinesOfItems.{line_of_item}
use Rattle.obj_text.proofs.writer.put_vertices.Goals as goal

pub unwrap-p-requires : goal.unwrap-p-requires
unwrap-p-requires g c =
    let points = (g.S.Surface.mesh c.args.mesh.now).points in
    let i = c.loop-v.v-index in
    let v = c.v-item.result in
    let here : v ≡ get_or (finite.keys points) i v = c.v-item.is ∙ ap (λ (ids : List ℕ). get_or ids i v) c.requires.live in
    ap is_some (c.point.ensures ∙ ap (finite.get points) here) ∙ key_is_live points i v (omega (arith, ap length c.requires.live))

pub returns : goal.returns
returns g c =
    let points = (g.S.Surface.mesh c.args.mesh.now).points in
    let line = λ (v : ℕ). text_of_found (vertex_line c.args.decimals) (finite.get points v) in
    let all : take c.loop-v.v-index c.args.ids.now ≡ finite.keys points = take_all c.loop-v.v-index c.args.ids.now (omega arith) ∙ c.requires.live in
    c.loop-v.invariant ∙ ap (λ (ids : List ℕ). c.args.out.now.items ++ flat_map line ids) all ∙ ap (λ (t : List ℕ). c.args.out.now.items ++ t) (text_of_all points (vertex_line c.args.decimals))

pub loop-v-preserved : goal.loop-v-preserved
loop-v-preserved g c =
    let points = (g.S.Surface.mesh c.args.mesh.now).points in
    let v = c.v-item.result in
    let line = λ (v : ℕ). text_of_found (vertex_line c.args.decimals) (finite.get points v) in
    let written : c.put_vertex.new.out.items ≡ c.loop-v.out.items ++ line v = rw (sym c.point.ensures ∙ c.unwrap-p.ensures) c.in_ok-put_vertex.ensures in
    line_of_item line _ _ _ c.args.ids.now c.loop-v.v-index v c.v-item.is c.loop-v-test.true c.loop-v.invariant written
