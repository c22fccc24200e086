use Rattle.std.proofs.Common.{◌≡◌, ◌<◌, ◌≤◌, length, get_or, subst, sym, ap, ◌∙◌, arith}
use Rattle.std.proofs.lemmas.List.{get_or_default, length-map}
use Rattle.std.specs.FinMap as finite
use Rattle.edit_base.specs.Classes.{is_one_of, classes}
use Rattle.edit_base.specs.Edges.{corners_at}
use Rattle.mesh_measure.specs.Components.{component_of}
use Rattle.mesh_measure.specs.Shape.{share_vertex}
use Rattle.mesh_measure.proofs.Classing.{first_corner}
use Rattle.mesh_measure.proofs.Spreading.{had}
use Rattle.mesh_measure.proofs.ComponentSteps.{IsListing, listing_none, listing_on, listed_all}
use Rattle.mesh_measure.proofs.measured.each_component.Goals as goal

pub loop-f-init : goal.loop-f-init
loop-f-init g c =
    let m = g.S.Surface.mesh c.args.mesh.now in
    subst (λ l. IsListing m c.new-met.result l 0) (sym c.new-all.ensures) (listing_none m c.new-met.result c.new-met.ensures.empty)

pub put_component-requires-clause-live : goal.put_component-requires-clause-live
put_component-requires-clause-live g c =
    let m = g.S.Surface.mesh c.args.mesh.now in
    let i = c.loop-f.f-index in
    let x = c.f-item.result in
    let items : c.as_slice-f-items.result.now ≡ finite.keys m.faces = c.as_slice-f-items.ensures ∙ c.in_ok-faces.ensures in
    let low : i < length (finite.keys m.faces) = subst (λ l. i < length l) items c.loop-f-test.true in
    let is : x ≡ get_or (finite.keys m.faces) i 0 = c.f-item.is ∙ ap (λ l. get_or l i x) items ∙ get_or_default (finite.keys m.faces) i x 0 low in
    ap (is_one_of (finite.keys m.faces)) is ∙ had (finite.keys m.faces) i low

pub put_component-requires-clause-corner : goal.put_component-requires-clause-corner
put_component-requires-clause-corner g c = first_corner (corners_at (g.S.Surface.mesh c.args.mesh.now) c.f-item.result) c.corners_at-first.result c.corners_at-first.ensures

pub loop-f-preserved : goal.loop-f-preserved
loop-f-preserved g c =
    let m = g.S.Surface.mesh c.args.mesh.now in
    let i = c.loop-f.f-index in
    let x = c.f-item.result in
    let items : c.as_slice-f-items.result.now ≡ finite.keys m.faces = c.as_slice-f-items.ensures ∙ c.in_ok-faces.ensures in
    let low : i < length (finite.keys m.faces) = subst (λ l. i < length l) items c.loop-f-test.true in
    let is : x ≡ get_or (finite.keys m.faces) i 0 = c.f-item.is ∙ ap (λ l. get_or l i x) items ∙ get_or_default (finite.keys m.faces) i x 0 low in
    listing_on m c.loop-f.met c.put_component.new.met c.loop-f.all c.put_component.new.all i x c.corners_at-first.result.first c.loop-f.invariant low is
    (first_corner (corners_at m x) c.corners_at-first.result c.corners_at-first.ensures) c.in_ok-put_component.ensures.met c.in_ok-put_component.ensures.all

pub returns-clause-value : goal.returns-clause-value
returns-clause-value g c =
    let m = g.S.Surface.mesh c.args.mesh.now in
    let items : c.as_slice-f-items.result.now ≡ finite.keys m.faces = c.as_slice-f-items.ensures ∙ c.in_ok-faces.ensures in
    let end : length c.as_slice-f-items.result.now ≤ c.loop-f.f-index = omega arith in
    listed_all m c.loop-f.met c.loop-f.all c.loop-f.f-index c.loop-f.invariant (subst (λ l. length l ≤ c.loop-f.f-index) items end)

pub returns-clause-as_many : goal.returns-clause-as_many
returns-clause-as_many g c =
    let m = g.S.Surface.mesh c.args.mesh.now in
    let items : c.as_slice-f-items.result.now ≡ finite.keys m.faces = c.as_slice-f-items.ensures ∙ c.in_ok-faces.ensures in
    let end : length c.as_slice-f-items.result.now ≤ c.loop-f.f-index = omega arith in
    ap length (listed_all m c.loop-f.met c.loop-f.all c.loop-f.f-index c.loop-f.invariant (subst (λ l. length l ≤ c.loop-f.f-index) items end))
    ∙ length-map (classes (share_vertex m) (finite.keys m.faces)) (component_of m)
