use Rattle.std.proofs.Common.{◌≡◌, ◌≤◌, take, length, sym, ap, subst, ◌∙◌, arith}
use Rattle.std.proofs.lemmas.List.{take_all}
use Rattle.edit_base.specs.Edges.{corners_at}
use Rattle.mesh_measure.specs.Round.{behind, before, AddsLink, AreLinks}
use Rattle.mesh_measure.proofs.Linking.{links_none, one_longer, links_more}
use Rattle.mesh_measure.proofs.round.put_links.Goals as goal

pub loop-f-init : goal.loop-f-init
loop-f-init g c = links_none (g.S.Surface.mesh c.args.mesh.now) c.args.v c.args.links.now c.requires

pub loop-f-preserved : goal.loop-f-preserved
loop-f-preserved g c =
    let m = g.S.Surface.mesh c.args.mesh.now in
    let v = c.args.v in
    let i = c.loop-f.f-index in
    let x = c.f-item.result in
    let faces = c.args.faces.now in
    let old = c.loop-f.links in
    let new = c.put_link.new.links in
    let from : c.behind-from.result ≡ behind (corners_at m x) v = c.behind-from.ensures ∙ ap (λ k. behind k v) c.corners_at-c.ensures in
    let to : c.before-to.result ≡ before (corners_at m x) v = c.before-to.ensures ∙ ap (λ k. before k v) c.corners_at-c.ensures in
    let adds = subst (λ k. AddsLink k (before (corners_at m x) v) old new) from (subst (λ t. AddsLink c.behind-from.result t old new) to (c.in_ok-put_link.ensures c.if-not-branch.false)) in
    subst (λ fs. AreLinks m v fs new) (sym (one_longer faces i x c.loop-f-test.true c.f-item.is)) (links_more m v (take i faces) x old new c.loop-f.invariant adds)

pub returns : goal.returns
returns g c = λ done.
    let m = g.S.Surface.mesh c.args.mesh.now in
    let end : length c.args.faces.now ≤ c.loop-f.f-index = omega arith in
    subst (λ fs. AreLinks m c.args.v fs c.loop-f.links) (take_all c.loop-f.f-index c.args.faces.now end) c.loop-f.invariant
