use Rattle.std.proofs.Common.{◌≡◌, ◌++◌, ◌==◌, map, drop}
use Rattle.std.specs.List.{filter}
use Rattle.step_zones.specs.Ranks.{label_by}
use Rattle.step_zones.proofs.blocks.members.Given as goal

-- the members so far and those to come are all
abbrev pub invariant-loop-i : goal.invariant-loop-i
invariant-loop-i l =
    l.ids ++ filter (λ v. label_by l.asked l.labels v == l.l) (map (λ s. s.v) (drop l.i l.asked))
    ≡ filter (λ v. label_by l.asked l.labels v == l.l) (map (λ s. s.v) l.asked)
