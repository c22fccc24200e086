use Rattle.std.proofs.Common.{◌≤◌, ◌++◌, length, append-nil, sym, ap, ◌∙◌, arith}
use Rattle.edit_base.specs.Scaffold.{motion_by}
use Rattle.pair_paths.specs.Moving.{live_face}
use Rattle.pair_scan.proofs.Lists.{ended, made_more}
use Rattle.edit_check.specs.Boxed.{faces_in}
use Rattle.edit_check.specs.Nearby.{as_list, faces_among}
use Rattle.edit_check.proofs.nearby.faces_along.Goals as goal

pub loop-f-preserved : goal.loop-f-preserved
loop-f-preserved g c =
    let m = g.S.Surface.mesh c.args.paths.now.mesh.now in
    let moves = c.args.paths.now.moves.now in
    let ids = c.args.ids.now in
    let old = faces_in c.loop-f.faces.items in
    made_more (λ f. as_list (live_face m (motion_by m moves) f)) ids c.loop-f.f-index c.f-item.result old (faces_in c.put_face.new.faces.items) (faces_among m moves ids) c.loop-f-test.true
    (c.in_ok-put_face.ensures ∙ ap (λ f. old ++ as_list (live_face m (motion_by m moves) f)) c.f-item.is) c.loop-f.invariant

pub returns : goal.returns
returns g c =
    let m = g.S.Surface.mesh c.args.paths.now.mesh.now in
    let moves = c.args.paths.now.moves.now in
    let made = faces_in c.loop-f.faces.items in
    let end : length c.args.ids.now ≤ c.loop-f.f-index = omega arith in
    ap faces_in c.from_vec.ensures
    ∙ sym (append-nil made)
    ∙ sym (ap (λ l. made ++ faces_among m moves l) (ended c.args.ids.now c.loop-f.f-index end))
    ∙ c.loop-f.invariant
