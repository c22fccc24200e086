-- What a check is of, and what it answers, edge by edge.
use Rattle.std.specs.Prelude.{◌≡◌, ℕ, not, List, IsNone}
use Rattle.std.specs.List.{find}
use Rattle.std.specs.Option.{option_map}
use Rattle.std.proofs.Common.{Option}
use Rattle.grid_decided.specs.Decided.{meets_exactly}
use Rattle.mesh_base.specs.declared.ids.PairName.{PairName}
use Rattle.mesh_base.specs.Mesh.{Mesh}
use Rattle.mesh_base.specs.Pairs.{Pair}
use Rattle.edit_base.specs.declared.Move.{Move}
use Rattle.edit_base.specs.declared.Touch.{Touch}
use Rattle.edit_base.specs.Scaffold.{Scaffold, is_as_required, first_failing, motion_by, IsClearBut}

-- the mesh, with the moves, and the vertices of which two may touch
abbrev pub scaffold_by : Mesh → List Move → Touch → List ℕ → Scaffold
scaffold_by m moves touch together =
    record { mesh = m; moves = moves; touch = touch; together = together }

-- the name of the first of the pairs that is not as required
abbrev pub first_of : Scaffold → ℕ → List Pair → Option PairName
first_of s depth ps =
    option_map (λ p. p.name) (find (λ p. not (is_as_required meets_exactly s depth p)) ps)

-- it is the first pair of the mesh that is not as required in the motion, tested to this depth
abbrev pub IsFirstFailing : Mesh → List Move → Touch → List ℕ → ℕ → Option PairName → Type 0
IsFirstFailing m moves touch together depth found =
    found ≡ first_failing meets_exactly (scaffold_by m moves touch together) depth

-- where there is none, no pair meets at any fraction, but where two may touch
abbrev pub IsClearButIfNone : Mesh → List Move → Touch → Option PairName → Type 0
IsClearButIfNone m moves touch found = IsNone found → IsClearBut touch m (motion_by m moves)
