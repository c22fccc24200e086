use Rattle.std.proofs.Common.{◌≡◌, ℕ, length}
use Rattle.pass_run.specs.Places.{IsPlaced}
use Rattle.pass_run.proofs.places.all_places.Given as goal

-- the ids so far have their places
abbrev pub invariant-loop-v : goal.invariant-loop-v
invariant-loop-v g l = record {
  placed : (u : ℕ) → IsPlaced (g.S.Surface.mesh l.mesh) l.places.items u;
  long : length l.places.items ≡ l.v;
}
