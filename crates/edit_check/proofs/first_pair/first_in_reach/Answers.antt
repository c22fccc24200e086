use Rattle.std.proofs.Common.{◌≡◌, Some, ap, sym, subst, ◌∙◌}
use Rattle.std.specs.List.{filter}
use Rattle.edit_base.specs.Scaffold.{motion_by}
use Rattle.pair_paths.specs.Moving.{moving_faces}
use Rattle.edit_check.specs.Boxed.{faces_in, touched_boxed}
use Rattle.edit_check.specs.Neighbourhood.{HaveNoneApart}
use Rattle.edit_check.specs.Reach.{is_face_in_reach}
use Rattle.edit_check.proofs.Beyond.{faces_of_reach}
use Rattle.edit_check.proofs.Whole.{none_apart, none_where_none_fail, is_first_failing}
use Rattle.edit_check.proofs.first_pair.first_in_reach.Goals as goal

pub invariant_of-near : goal.invariant_of-near
invariant_of-near g c =
    let m = g.S.Surface.mesh c.args.paths.now.mesh.now in
    let moves = c.args.paths.now.moves.now in
    let t = c.args.terms in
    let box = c.args.reach in
    let faces = c.as_slice-faces.result.now in
    let touched = c.as_slice.result.now in
    let near : faces_in faces ≡ filter (λ f. is_face_in_reach m (Some box) f.face) (moving_faces m (motion_by m moves)) =
    ap faces_in c.as_slice-faces.ensures ∙ c.in_ok-all.ensures ∙ faces_of_reach m moves (Some box) in
    let new : touched ≡ touched_boxed moves t.together.now c.args.fresh_from faces = c.as_slice.ensures ∙ c.in_ok-touched.ensures in
    record { apart = subst (λ b. HaveNoneApart t b faces touched faces) (sym c.of.ensures) (none_apart m moves t c.args.fresh_from box c.requires.reached faces touched near new) }

pub returns-then-none_is_seen_to_fail : goal.returns-then-none_is_seen_to_fail
returns-then-none_is_seen_to_fail g c =
    let m = g.S.Surface.mesh c.args.paths.now.mesh.now in
    let moves = c.args.paths.now.moves.now in
    let t = c.args.terms in
    let box = c.args.reach in
    let faces = c.as_slice-faces.result.now in
    let touched = c.as_slice.result.now in
    let near : faces_in faces ≡ filter (λ f. is_face_in_reach m (Some box) f.face) (moving_faces m (motion_by m moves)) =
    ap faces_in c.as_slice-faces.ensures ∙ c.in_ok-all.ensures ∙ faces_of_reach m moves (Some box) in
    let new : touched ≡ touched_boxed moves t.together.now c.args.fresh_from faces = c.as_slice.ensures ∙ c.in_ok-touched.ensures in
    sym (none_where_none_fail m moves t c.args.fresh_from box c.requires.reached faces touched near new (c.none_is_seen_to_fail.ensures c.if-none_is_seen_to_fail.true))
    ∙ is_first_failing m moves t c.args.fresh_from box c.requires.reached faces touched near new (g.met.S.Surface.sound c.args.paths.now.mesh.now) c.requires.clear

pub returns : goal.returns
returns g c =
    let m = g.S.Surface.mesh c.args.paths.now.mesh.now in
    let moves = c.args.paths.now.moves.now in
    let t = c.args.terms in
    let box = c.args.reach in
    let faces = c.as_slice-faces.result.now in
    let touched = c.as_slice.result.now in
    let near : faces_in faces ≡ filter (λ f. is_face_in_reach m (Some box) f.face) (moving_faces m (motion_by m moves)) =
    ap faces_in c.as_slice-faces.ensures ∙ c.in_ok-all.ensures ∙ faces_of_reach m moves (Some box) in
    let new : touched ≡ touched_boxed moves t.together.now c.args.fresh_from faces = c.as_slice.ensures ∙ c.in_ok-touched.ensures in
    c.first_along.ensures ∙ is_first_failing m moves t c.args.fresh_from box c.requires.reached faces touched near new (g.met.S.Surface.sound c.args.paths.now.mesh.now) c.requires.clear
