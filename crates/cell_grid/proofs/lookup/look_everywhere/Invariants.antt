use Rattle.std.proofs.Common.{◌≡◌, ◌++◌}
use Rattle.std.specs.List.{filter}
use Rattle.std.specs.Map.{keys_of}
use Rattle.grid_base.specs.Extents.{overlaps}
use Rattle.cell_grid.proofs.lookup.look_everywhere.Given as goal

abbrev pub invariant-loop-i : goal.invariant-loop-i
invariant-loop-i l = l.into.items ++ keys_of (filter (λ e. overlaps e.1 l.at) l.i-iterator) ≡ l.fn.into.items ++ keys_of (filter (λ e. overlaps e.1 l.at) l.items.entries)
