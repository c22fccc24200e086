use Rattle.std.proofs.Common.{◌≡◌, ℕ, List, [], ◌∷◌, map, ap, refl, sym, ◌∙◌}
use Rattle.std.specs.List.{flat_map}
use Rattle.std.specs.FinMap as finite
use Rattle.mesh_base.specs.declared.ids.Corners.{Corners}
use Rattle.pair_paths.proofs.Faces.{listed, made_each}
use Rattle.pair_paths.proofs.Walks.{made_all}
use Rattle.step_lists.proofs.faces.faces_of.Goals as goal

unchanged : (faces : List (ℕ × Corners)) → map (λ f. f) faces ≡ faces
unchanged [] = refl
unchanged (f ∷ faces) = ap (λ fs. f ∷ fs) (unchanged faces)

pub returns : goal.returns
returns g c =
    let m = g.S.Surface.mesh c.args.mesh.now in
    let items = c.as_slice-f-items.result.now in
    let one : ℕ → List (ℕ × Corners) = λ f. listed (λ k. (f, k) ∷ []) (finite.get m.faces f) in
    let all : items ≡ finite.keys m.faces = c.as_slice-f-items.ensures ∙ c.in_ok-ids.ensures in
    sym (made_all one items c.loop-f.f-index c.loop-f.faces c.loop-f-test.false) ∙ c.loop-f.invariant ∙ ap (flat_map one) all ∙ made_each m.faces (λ f. f) ∙ unchanged (finite.entries m.faces)
