use Rattle.std.proofs.Common.{◌≡◌, ◌++◌, ◌∷◌, [], drop}
use Rattle.std.specs.List.{flat_map}
use Rattle.std.specs.FinMap as finite
use Rattle.pair_paths.proofs.Faces.{listed}
use Rattle.step_lists.proofs.faces.faces_of.Given as goal

-- the faces so far, and those that are left, are all
abbrev pub invariant-loop-f : goal.invariant-loop-f
invariant-loop-f g l =
    l.faces ++ flat_map (λ f. listed (λ c. (f, c) ∷ []) (finite.get (g.S.Surface.mesh l.mesh).faces f)) (drop l.f-index l.f-items)
    ≡ flat_map (λ f. listed (λ c. (f, c) ∷ []) (finite.get (g.S.Surface.mesh l.mesh).faces f)) l.f-items
