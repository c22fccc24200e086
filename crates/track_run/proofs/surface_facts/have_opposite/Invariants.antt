use Rattle.std.proofs.Common.{◌≡◌, ◌&&◌, drop}
use Rattle.std.specs.List.{list_any}
use Rattle.track_run.specs.Surface.{rises, has_opposite}
use Rattle.track_run.proofs.surface_facts.have_opposite.Given as goal

-- one rises and has an opposite where one of those that are left does
abbrev pub invariant-loop-c : goal.invariant-loop-c
invariant-loop-c g l =
    let m = g.S.Surface.mesh l.mesh in
    list_any (λ c. rises c && has_opposite m c) (drop l.c-index l.faces) ≡ list_any (λ c. rises c && has_opposite m c) l.faces
