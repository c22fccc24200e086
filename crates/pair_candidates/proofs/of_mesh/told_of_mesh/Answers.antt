use Rattle.std.proofs.Common.{ap, ◌∙◌}
use Rattle.pair_paths.specs.Moving.{moving_faces}
use Rattle.pair_candidates.specs.Told.{told_along, up_to}
use Rattle.pair_candidates.proofs.of_mesh.told_of_mesh.Goals as goal

pub returns : goal.returns
returns g c =
    let m = g.S.Surface.mesh c.args.mesh.now in
    let w = g.P.Paths.motion c.args.motion.now in
    let test = g.A.PairTest.test c.args.test.now in
    let what = g.A.PairTest.what in
    c.in_ok-found.ensures
    ∙ ap (λ fs. up_to c.args.most (told_along test what w fs c.as_slice-2.result.now)) (c.as_slice-face_list.ensures ∙ c.in_ok-faces.ensures)
    ∙ ap (λ es. up_to c.args.most (told_along test what w (moving_faces m w) es)) (c.as_slice-2.ensures ∙ c.in_ok-edges.ensures)
