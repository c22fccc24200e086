use Rattle.std.proofs.Common.{◌≡◌, ℕ, ◌++◌, ◌≤◌, List, take, length, sym, ap, subst, ◌∙◌, arith}
use Rattle.std.proofs.lemmas.List.{take_all}
use Rattle.std.specs.List.{flat_map}
use Rattle.mesh_base.specs.Changes.{corner_list}
use Rattle.edit_base.specs.Edges.{corners_at}
use Rattle.mesh_measure.specs.Above.{AddsAbove}
use Rattle.mesh_measure.proofs.Meeting.{one_more_face}
use Rattle.mesh_measure.proofs.EdgesFrom.{adds_none, adds_then}
use Rattle.mesh_measure.proofs.edge_number.put_around.Goals as goal

pub loop-f-init : goal.loop-f-init
loop-f-init g c = adds_none c.args.v c.args.near.now.items

pub loop-f-preserved : goal.loop-f-preserved
loop-f-preserved g c =
    let m = g.S.Surface.mesh c.args.mesh.now in
    let f : ℕ → List ℕ = λ f. corner_list (corners_at m f) in
    let faces = c.args.faces.now in
    let i = c.loop-f.f-index in
    let old = c.args.near.now.items in
    let new = c.put_corners.new.near.items in
    let last : corner_list c.corners_at.result ≡ f c.f-item.result = ap corner_list c.corners_at.ensures in
    subst (λ us. AddsAbove c.args.v us old new)
    (ap (λ l. flat_map f (take i faces) ++ l) last ∙ sym (one_more_face f faces i c.f-item.result c.loop-f-test.true c.f-item.is))
    (adds_then c.args.v (flat_map f (take i faces)) (corner_list c.corners_at.result) old c.loop-f.near.items new c.loop-f.invariant c.in_ok-put_corners.ensures)

pub returns : goal.returns
returns g c =
    let m = g.S.Surface.mesh c.args.mesh.now in
    let f : ℕ → List ℕ = λ f. corner_list (corners_at m f) in
    let faces = c.args.faces.now in
    let end : length faces ≤ c.loop-f.f-index = omega arith in
    subst (λ us. AddsAbove c.args.v us c.args.near.now.items c.loop-f.near.items) (ap (flat_map f) (take_all c.loop-f.f-index faces end)) c.loop-f.invariant
