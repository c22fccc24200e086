use Rattle.std.proofs.Common.{◌≡◌, ◌++◌, ℕ, false, map, drop}
use Rattle.log_run.proofs.step_lines.none_named.Given as goal

-- the items so far and those to come are all
abbrev pub invariant-loop-v : goal.invariant-loop-v
invariant-loop-v l = l.named ++ map (λ (v : ℕ). false) (drop l._v-index l.ids) ≡ map (λ (v : ℕ). false) l.ids
