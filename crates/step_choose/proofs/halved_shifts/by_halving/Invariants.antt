use Rattle.std.proofs.Common.{◌≡◌, ◌+◌, ◌-◌}
use Rattle.std.specs.List.{find, range_with_len}
use Rattle.grid_decided.specs.Decided.{meets_exactly}
use Rattle.step_choose.specs.Choice.{all_pass, halved_times}
use Rattle.step_choose.proofs.halved_shifts.by_halving.Given as goal

-- the first number that serves is among those to come
abbrev pub invariant-loop-k : goal.invariant-loop-k
invariant-loop-k g l =
    find (λ n. all_pass meets_exactly (g.S.Surface.mesh l.mesh) (halved_times n l.asked) l.set.depth) (range_with_len (1 + l.k) (l.set.halvings - l.k))
    ≡ find (λ n. all_pass meets_exactly (g.S.Surface.mesh l.mesh) (halved_times n l.asked) l.set.depth) (range_with_len 1 l.set.halvings)
