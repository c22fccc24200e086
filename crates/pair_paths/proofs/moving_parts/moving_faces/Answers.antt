use Rattle.std.proofs.Common.{◌≡◌, ℕ, List, [], ◌∷◌, ap, sym, ◌∙◌}
use Rattle.std.specs.List.{flat_map}
use Rattle.std.specs.FinMap as finite
use Rattle.pair_paths.specs.declared.moving_parts.MovingFace.{MovingFace}
use Rattle.pair_paths.specs.Moving.{moving_face}
use Rattle.pair_paths.proofs.Faces.{listed, made_each}
use Rattle.pair_paths.proofs.Walks.{made_all}
use Rattle.pair_paths.proofs.moving_parts.moving_faces.Goals as goal

pub returns : goal.returns
returns g c =
    let m = g.S.Surface.mesh c.args.mesh.now in
    let items = c.as_slice-f-items.result.now in
    let one : ℕ → List MovingFace = λ f. listed (λ k. moving_face (g.P.Paths.motion c.args.paths.now) (f, k) ∷ []) (finite.get m.faces f) in
    let all : items ≡ finite.keys m.faces = c.as_slice-f-items.ensures ∙ c.in_ok-ids.ensures in
    c.from_vec.ensures ∙ sym (made_all one items c.loop-f.f-index c.loop-f.faces.items c.loop-f-test.false) ∙ c.loop-f.invariant ∙ ap (flat_map one) all ∙ made_each m.faces (moving_face (g.P.Paths.motion c.args.paths.now))
