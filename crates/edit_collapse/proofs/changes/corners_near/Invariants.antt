use Rattle.std.proofs.Common.{◌≡◌, ◌++◌, drop}
use Rattle.std.specs.List.{flat_map}
use Rattle.edit_collapse.specs.Tried.{corners_if_live}
use Rattle.edit_collapse.proofs.changes.corners_near.Given as goal

-- the corners so far, and those of the faces that are left, are all
abbrev pub invariant-loop-f : goal.invariant-loop-f
invariant-loop-f g l =
    let m = g.S.Surface.mesh l.mesh in
    l.near ++ flat_map (λ f. corners_if_live m f) (drop l.f-index l.f-items) ≡ flat_map (λ f. corners_if_live m f) l.f-items
