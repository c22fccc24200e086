use Rattle.std.proofs.Common.{◌≡◌, ◌==◌, ◌++◌, not, drop}
use Rattle.std.specs.List.{filter}
use Rattle.edit_pinch.proofs.vertex_fans.others.Given as goal

-- those so far, and those of the faces that are left, are all
abbrev pub invariant-loop-g : goal.invariant-loop-g
invariant-loop-g l = l.rest ++ filter (λ g. not (g == l.f)) (drop l.g-index l.faces) ≡ filter (λ g. not (g == l.f)) l.faces
