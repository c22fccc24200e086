use Rattle.std.proofs.Common.{◌∙◌, ap, subst, ◌++◌}
use Rattle.std.specs.List.{filter}
use Rattle.std.specs.Map.{keys_of}
use Rattle.grid_base.specs.Extents.{overlaps}
use Rattle.cell_grid.specs.Filed.{has, FindsAlong}
use Rattle.cell_grid.proofs.Held.{on_ok}
use Rattle.cell_grid.proofs.Found.{on_ok_two, found_all, has-passing}
use Rattle.cell_grid.proofs.lookup.look.Goals as goal

pub returns-in_ok-add_all-in-Some : goal.returns-in_ok-add_all-in-Some
returns-in_ok-add_all-in-Some c = on_ok_two c.look_along.result
    (λ found keeps. found_all c.args.cell c.args.items.now c.args.large.now c.args.cells.now c.args.at.now c.in-Some.span c.requires.some_size c.requires.filed c.in-Some.ensures
    c.add_all.new.into.items c.look_along.new.into.items
    (c.in_ok-add_all-in-Some.ensures ∙ ap (λ xs. xs ++ c.args.large.now) c.requires.empty)
    (subst (λ b. FindsAlong c.args.cells.now c.in-Some.span b c.look_along.new.into.items) c.of.ensures found) keeps)
    c.look_along.ensures.found c.look_along.ensures.keeps

pub returns-in-None : goal.returns-in-None
returns-in-None c = on_ok c.look_everywhere.result
    (λ all i met. ap (has i) (all ∙ ap (λ xs. xs ++ keys_of (filter (λ e. overlaps e.1 c.args.at.now) c.args.items.now.entries)) c.requires.empty) ∙ has-passing (λ e. overlaps e c.args.at.now) c.args.items.now.entries i c.look_everywhere.ensures.unique ∙ met)
    c.look_everywhere.ensures.found
