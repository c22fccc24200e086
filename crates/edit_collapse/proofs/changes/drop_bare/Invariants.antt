use Rattle.std.proofs.Common.{◌≡◌, drop}
use Rattle.std.specs.List.{fold}
use Rattle.mesh_base.specs.Kept.{BeginsWith}
use Rattle.edit_collapse.specs.Tried.{others_than, without_if_bare}
use Rattle.edit_collapse.proofs.changes.drop_bare.Given as goal

abbrev pub invariant-loop-v : goal.invariant-loop-v
invariant-loop-v g l =
    (fold without_if_bare (g.S.Surface.mesh l.mesh) (others_than l.but (drop l.v-index l.near)) ≡ fold without_if_bare (g.S.Surface.mesh l.fn.mesh) (others_than l.but l.near))
    × BeginsWith (g.S.Surface.kept l.mesh) (g.S.Surface.kept l.fn.mesh)
