use Rattle.std.proofs.Common.{◌∙◌}
use Rattle.cell_grid.proofs.Listed.{get_made}
use Rattle.cell_grid.proofs.grid.Grid.get.Goals as goal

pub returns : goal.returns
returns c = rw (← c.self.view_is, get_made) (c.copied.ensures ∙ c.get.ensures.value)
