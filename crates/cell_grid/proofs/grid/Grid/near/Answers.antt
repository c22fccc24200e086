use Rattle.std.proofs.Common.{ap, false, subst, IsTrue}
use Rattle.std.specs.FinMap as fin
use Rattle.std.specs.Option.{option_map_or}
use Rattle.grid_base.specs.Extents.{overlaps}
use Rattle.cell_grid.specs.Overlapping.{HasEachAt}
use Rattle.cell_grid.proofs.Held.{on_ok}
use Rattle.cell_grid.proofs.Listed.{get_made}
use Rattle.cell_grid.proofs.grid.Grid.near.Goals as goal

pub returns-clause-all : goal.returns-clause-all
returns-clause-all c =
    let items = c.self.inside.items in
    on_ok c.look_rising.result (λ all. rw (← c.self.view_is) (λ i met. all i (subst IsTrue (ap (λ o. option_map_or (λ e. overlaps e c.args.at) o false) (get_made items.entries i)) met)))
    c.look_rising.ensures.all
