use Rattle.std.proofs.Common.{◌∙◌}
use Rattle.pass_run.proofs.Between.{in_block}
use Rattle.pass_run.proofs.midpoint_cells.places_wanted.Goals as goal

pub returns-clause-wanted : goal.returns-clause-wanted
returns-clause-wanted c k low wanted =
    c.put_in_order.ensures.same k
    ∙ c.in_ok-look_between.ensures.wanted k low wanted
    (in_block c.args.cells.now.size c.requires.cells.size c.args.turn.now c.args.round c.requires.within c.requires.round k wanted _ _ c.cell_of-low.ensures.value c.cell_of-high.ensures.value)
