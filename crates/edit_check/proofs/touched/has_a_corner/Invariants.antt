use Rattle.std.proofs.Common.{◌≡◌, drop}
use Rattle.std.specs.List.{list_any}
use Rattle.mesh_base.specs.Sides.{has_corner}
use Rattle.edit_check.proofs.touched.has_a_corner.Given as goal

-- one is a corner where one of those that are left is
abbrev pub invariant-loop-v : goal.invariant-loop-v
invariant-loop-v l = list_any (λ v. has_corner l.c v) (drop l.v-index l.together) ≡ list_any (λ v. has_corner l.c v) l.together
