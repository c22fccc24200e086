use Rattle.std.proofs.Common.{◌≡◌, None, subst, sym, ◌∙◌}
use Rattle.grid_base.specs.Extents.{IsIn}
use Rattle.edit_base.specs.Scaffold.{move_of, motion_by}
use Rattle.pair_paths.specs.Paths.{path_along}
use Rattle.pair_paths.specs.Bounds.{HoldsPath}
use Rattle.edit_check.proofs.Scans.{none}
use Rattle.edit_check.proofs.Untouched.{start_stays, end_stays}
use Rattle.edit_check.proofs.reach.box_of_vertex.Goals as goal

pub returns-else-is_moved : goal.returns-else-is_moved
returns-else-is_moved g c =
    let m = g.S.Surface.mesh c.args.paths.now.mesh.now in
    let moves = c.args.paths.now.moves.now in
    let v = c.args.v in
    let box = c.box_of_path-way.result in
    let stays : move_of moves v ≡ None = none (move_of moves v) (sym c.is_moved.ensures ∙ c.if-is_moved.false) in
    let held : HoldsPath c.path_of.result box = c.box_of_path-way.ensures in
    let way : HoldsPath (path_along (motion_by m moves) v) box = subst (λ p. HoldsPath p box) c.path_of.ensures held in
    record {
      way = way;
      standing = record { start = subst (IsIn box) (start_stays m moves v stays) way.start; end = subst (IsIn box) (end_stays m moves v stays) way.end };
    }
