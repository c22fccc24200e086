use Rattle.std.proofs.Common.{◌≡◌, ◌++◌, ◌∷◌, [], ℕ, List, length, get_or, is_some, ap, sym, ◌∙◌, arith}
use Rattle.std.specs.FinMap as finite
use Rattle.std.proofs.lemmas.List.{take_all}
use Rattle.grid_base.specs.declared.Point.{Point}
use Rattle.obj_text.specs.Written.{points_in_order}
use Rattle.obj_text.proofs.Lookups.{key_is_live}
use Rattle.obj_text.proofs.InOrder.{next_value, as_many}
use Rattle.obj_text.proofs.ranking.points_of.Goals as goal

pub unwrap-p-requires : goal.unwrap-p-requires
unwrap-p-requires g c =
    let points = (g.S.Surface.mesh c.args.mesh.now).points in
    let i = c.loop-v.v-index in
    let v = c.v-item.result in
    let here : v ≡ get_or (finite.keys points) i v = c.v-item.is ∙ ap (λ (ids : List ℕ). get_or ids i v) c.requires.live in
    ap is_some (c.point.ensures ∙ ap (finite.get points) here) ∙ key_is_live points i v (omega (arith, ap length c.requires.live))

pub returns : goal.returns
returns g c =
    let m = g.S.Surface.mesh c.args.mesh.now in
    let many = as_many m.points (λ (p : Point). p) c.args.ids.now c.requires.live in
    c.loop-v.invariant ∙ take_all c.loop-v.v-index (points_in_order m) (omega (arith, many))

pub loop-v-preserved : goal.loop-v-preserved
loop-v-preserved g c =
    let m = g.S.Surface.mesh c.args.mesh.now in
    let i = c.loop-v.v-index in
    let p = c.unwrap-p.result in
    c.in_ok-push.ensures.ok ∙ ap (λ (ps : List Point). ps ++ p ∷ []) c.loop-v.invariant ∙ next_value m.points (λ (q : Point). q) c.args.ids.now i c.v-item.result p c.requires.live c.loop-v-test.true c.v-item.is (sym c.point.ensures ∙ c.unwrap-p.ensures)
