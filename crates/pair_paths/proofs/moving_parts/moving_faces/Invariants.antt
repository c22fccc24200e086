use Rattle.std.proofs.Common.{◌≡◌, ◌++◌, ◌∷◌, [], drop}
use Rattle.std.specs.List.{flat_map}
use Rattle.std.specs.FinMap as finite
use Rattle.pair_paths.specs.Moving.{moving_face}
use Rattle.pair_paths.proofs.Faces.{listed}
use Rattle.pair_paths.proofs.moving_parts.moving_faces.Given as goal

-- the faces so far, and those that are left, are all
abbrev pub invariant-loop-f : goal.invariant-loop-f
invariant-loop-f g l =
    l.faces.items ++ flat_map (λ f. listed (λ c. moving_face (g.P.Paths.motion l.paths) (f, c) ∷ []) (finite.get (g.S.Surface.mesh l.mesh).faces f)) (drop l.f-index l.f-items)
    ≡ flat_map (λ f. listed (λ c. moving_face (g.P.Paths.motion l.paths) (f, c) ∷ []) (finite.get (g.S.Surface.mesh l.mesh).faces f)) l.f-items
