use Rattle.std.proofs.Common.{◌≡◌, false, not, [], ◌∷◌, sym, ap, subst, ◌∙◌}
use Rattle.std.specs.Option.{option_or, option_map}
use Rattle.std.specs.List.{flat_map}
use Rattle.grid_decided.specs.Decided.{meets_exactly}
use Rattle.mesh_base.specs.Mesh.{Mesh}
use Rattle.mesh_base.specs.Placements.{rest_positions}
use Rattle.mesh_base.specs.Failing.{first_meeting}
use Rattle.edit_base.specs.declared.answers.Why.TheVariants.{Doubled, Hit}
use Rattle.edit_base.specs.Edges.{doubles_a_face}
use Rattle.edit_base.specs.Reasons.{reason_if}
use Rattle.edit_zip.specs.Zip.{zip_mesh, turns, two_faces, first_rim, second_rim}
use Rattle.edit_check.specs.Untouched.{IsClearWhereUntouched}
use Rattle.edit_check.proofs.Premise.{agreeing_is, faces_changed}
use Rattle.edit_zip.proofs.attempts.put_and_check.Goals as goal

pub check_still-requires : goal.check_still-requires
check_still-requires g c =
    let m = g.S.Surface.mesh c.args.mesh.now in
    let s = c.args.s.now in
    let t = c.args.t.now in
    subst (λ k. IsClearWhereUntouched (g.S.Surface.mesh c.put_turn.new.mesh) [] k) (sym c.next_face-fresh_from.ensures)
    (subst (λ (n : Mesh). IsClearWhereUntouched n [] m.next_face) (sym (c.in_ok-put_turn.ensures.made c.if-branch.true))
    (agreeing_is m (zip_mesh m s t c.args.turn) [] (g.met.S.Surface.sound c.args.mesh.now) c.requires.clear
    (faces_changed m (s.left_face ∷ s.right_face ∷ t.left_face ∷ t.right_face ∷ []) (flat_map (λ i. two_faces (first_rim s) (second_rim t) c.args.turn i) turns) [])))

pub returns-in_ok-found-clause-reason : goal.returns-in_ok-found-clause-reason
returns-in_ok-found-clause-reason g c =
    let zipped = zip_mesh (g.S.Surface.mesh c.args.mesh.now) c.args.s.now c.args.t.now c.args.turn in
    let made = c.in_ok-put_turn.ensures.made c.if-branch.true in
    let found = c.in_ok-found.ensures.first ∙ (λ i. first_meeting meets_exactly (made i) (rest_positions (made i))) in
    let single : false ≡ doubles_a_face zipped = ap not (sym c.if-branch.true) ∙ c.in_ok-put_turn.ensures.doubled in
    c.hit.ensures ∙ ap (λ r. option_map (λ p. Hit p) r) found
    ∙ (λ i. option_or (reason_if (single i) Doubled) (option_map (λ p. Hit p) (first_meeting meets_exactly zipped (rest_positions zipped))))
