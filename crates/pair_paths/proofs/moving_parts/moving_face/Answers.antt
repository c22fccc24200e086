use Rattle.std.proofs.Common.{Some, ap, sym, ◌∙◌}
use Rattle.std.specs.Option.{option_map}
use Rattle.std.specs.FinMap as finite
use Rattle.pair_paths.specs.Moving.{moving_face}
use Rattle.pair_paths.proofs.Faces.{looked_up}
use Rattle.pair_paths.proofs.moving_parts.moving_face.Goals as goal

pub returns-in-Some : goal.returns-in-Some
returns-in-Some g c =
    let m = g.S.Surface.mesh c.args.mesh.now in
    ap Some (c.face_with_paths.ensures ∙ ap (λ k. moving_face (g.P.Paths.motion c.args.paths.now) (c.args.f, k)) c.of.ensures)
    ∙ sym (ap (option_map (λ k. moving_face (g.P.Paths.motion c.args.paths.now) (c.args.f, k))) (looked_up (finite.get m.faces c.args.f) c.in-Some.ids c.in-Some.ensures))
