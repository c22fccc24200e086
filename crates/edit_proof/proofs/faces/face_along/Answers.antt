use Rattle.std.proofs.Common.{Some, ap, sym, ◌∙◌}
use Rattle.std.specs.Option.{option_map}
use Rattle.std.specs.FinMap as finite
use Rattle.edit_base.specs.Scaffold.{motion_by}
use Rattle.pair_paths.specs.Moving.{moving_face}
use Rattle.pair_paths.proofs.Faces.{looked_up}
use Rattle.edit_proof.proofs.faces.face_along.Goals as goal

pub returns-in-Some : goal.returns-in-Some
returns-in-Some g c =
    let m = g.S.Surface.mesh c.args.going.now.mesh.now in
    let w = motion_by m c.args.going.now.moves.now in
    ap Some (c.face_with_paths.ensures ∙ ap (λ k. moving_face w (c.args.f, k)) c.of.ensures)
    ∙ sym (ap (option_map (λ k. moving_face w (c.args.f, k))) (looked_up (finite.get m.faces c.args.f) c.in-Some.ids c.in-Some.ensures))
