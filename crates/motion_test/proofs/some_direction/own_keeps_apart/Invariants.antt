use Rattle.std.proofs.Common.{◌≡◌, ℕ, ◌<◌, slice_index_or}
use Rattle.grid_base.specs.Triples.{Triple}
use Rattle.grid_base.specs.Separation.{KeepsApart, ten_directions}
use Rattle.motion_test.proofs.some_direction.own_keeps_apart.Given as goal

-- none of the directions so far does
abbrev pub invariant-loop-i : goal.invariant-loop-i
invariant-loop-i l = (k : ℕ) → k < l.i → (x : Triple) → slice_index_or (ten_directions l.f) k x ≡ x → KeepsApart l.s l.t x → ⊥
