use Rattle.std.proofs.Common.{◌≡◌, ℕ, [], ◌∷◌, ◌++◌, ◌≤◌, map, take, length, sym, ap, subst, ◌∙◌, arith}
use Rattle.std.proofs.lemmas.List.{take_all}
use Rattle.edit_base.specs.Edges.{corners_at}
use Rattle.mesh_measure.specs.Round.{behind}
use Rattle.mesh_measure.specs.Walk.{Meets}
use Rattle.mesh_measure.proofs.Ahead.{one_more_corner}
use Rattle.mesh_measure.proofs.Meeting.{met_none, met_then}
use Rattle.mesh_measure.proofs.traversal.meet_ahead.Goals as goal

pub loop-f-init : goal.loop-f-init
loop-f-init g c = met_none c.args.met.now c.args.queue.now

pub loop-f-preserved : goal.loop-f-preserved
loop-f-preserved g c =
    let m = g.S.Surface.mesh c.args.mesh.now in
    let f : ℕ → ℕ = λ f. behind (corners_at m f) c.args.v in
    let faces = c.as_slice-f-items.result.now in
    let i = c.loop-f.f-index in
    let last : c.behind.result ≡ f c.f-item.result = c.behind.ensures ∙ ap (λ k. behind k c.args.v) c.corners_at-c.ensures in
    subst (λ us. Meets us c.args.met.now c.meet.new.met c.args.queue.now c.meet.new.queue)
    (ap (λ u. map f (take i faces) ++ u ∷ []) last ∙ sym (one_more_corner f faces i c.f-item.result c.loop-f-test.true c.f-item.is))
    (met_then (map f (take i faces)) (c.behind.result ∷ []) c.args.met.now c.loop-f.met c.meet.new.met c.args.queue.now c.loop-f.queue c.meet.new.queue c.loop-f.invariant c.in_ok-meet.ensures)

pub returns : goal.returns
returns g c =
    let m = g.S.Surface.mesh c.args.mesh.now in
    let f : ℕ → ℕ = λ f. behind (corners_at m f) c.args.v in
    let faces = c.as_slice-f-items.result.now in
    let end : length faces ≤ c.loop-f.f-index = omega arith in
    subst (λ us. Meets us c.args.met.now c.loop-f.met c.args.queue.now c.loop-f.queue)
    (ap (map f) (take_all c.loop-f.f-index faces end ∙ c.as_slice-f-items.ensures.value ∙ c.in_ok-faces_at.ensures.ok))
    c.loop-f.invariant
