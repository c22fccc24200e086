use Rattle.std.proofs.Common.{◌≡◌, ◌++◌, map, drop}
use Rattle.pair_paths.specs.Paths.{path_in}
use Rattle.pair_paths.proofs.known.paths_among.Given as goal

-- the paths so far and those to come are all
abbrev pub invariant-loop-v : goal.invariant-loop-v
invariant-loop-v g l = let asked = path_in (g.P.Paths.motion l.paths) in l.known ++ map asked (drop l.v-index l.ids) ≡ map asked l.ids
