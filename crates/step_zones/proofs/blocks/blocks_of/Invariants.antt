use Rattle.std.proofs.Common.{◌≡◌, ◌++◌, ◌==◌, ◌&&◌, nat_lt, map, drop}
use Rattle.std.specs.List.{filter}
use Rattle.step_zones.specs.Ranks.{label_by}
use Rattle.step_zones.specs.Totals.{total_of, labelled_blocks}
use Rattle.step_zones.proofs.blocks.blocks_of.Given as goal

-- the blocks so far and those to come are all
abbrev pub invariant-loop-i : goal.invariant-loop-i
invariant-loop-i g l =
    let m = g.S.Surface.mesh l.mesh in
    let at = label_by l.asked l.labels in
    l.blocks ++ map (λ v. filter (λ u. at u == v) (map (λ s. s.v) l.asked)) (filter (λ v. (at v == v) && nat_lt 1 (total_of m at v l.asked).count) (map (λ s. s.v) (drop l.i l.asked)))
    ≡ labelled_blocks m l.asked l.labels
