use Rattle.std.proofs.Common.{ℕ, ◌<◌, slice_index_or}
use Rattle.grid_base.specs.Triples.{Triple}
use Rattle.motion_proof.specs.Trees.{Serves}
use Rattle.motion_proof.proofs.directions.first_of.Given as goal

-- none of the directions so far serves
abbrev pub invariant-loop-n : goal.invariant-loop-n
invariant-loop-n l = (k : ℕ) (d : Triple) → k < l.n-index → Serves l.claim l.s l.t (slice_index_or l.ns k d) → ⊥
