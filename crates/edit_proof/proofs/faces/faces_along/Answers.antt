use Rattle.std.proofs.Common.{◌++◌, sym, ap, ◌∙◌}
use Rattle.edit_base.specs.Scaffold.{motion_by}
use Rattle.pair_paths.specs.Moving.{live_face}
use Rattle.pair_paths.proofs.Walks.{made_all, made_more}
use Rattle.edit_check.specs.Nearby.{as_list, faces_among}
use Rattle.edit_proof.proofs.faces.faces_along.Goals as goal

pub loop-f-preserved : goal.loop-f-preserved
loop-f-preserved g c =
    let m = g.S.Surface.mesh c.args.going.now.mesh.now in
    let ways = c.args.going.now.moves.now in
    let ids = c.args.ids.now in
    made_more (λ f. as_list (live_face m (motion_by m ways) f)) ids c.loop-f.f-index c.f-item.result c.loop-f.faces c.put_face.new.faces (faces_among m ways ids) c.loop-f-test.true
    (c.in_ok-put_face.ensures ∙ ap (λ f. c.loop-f.faces ++ as_list (live_face m (motion_by m ways) f)) c.f-item.is) c.loop-f.invariant

pub returns : goal.returns
returns g c =
    let m = g.S.Surface.mesh c.args.going.now.mesh.now in
    let ways = c.args.going.now.moves.now in
    sym (made_all (λ f. as_list (live_face m (motion_by m ways) f)) c.args.ids.now c.loop-f.f-index c.loop-f.faces c.loop-f-test.false) ∙ c.loop-f.invariant
