use Rattle.std.specs.Prelude.{[]}
use Rattle.grid_base.specs.Extents.{IsIn}
use Rattle.grid_base.specs.Triples.{Triple}
use Rattle.edit_base.specs.Scaffold.{motion_by}
use Rattle.pair_paths.specs.Paths.{path_along}
use Rattle.edit_check.proofs.Reached.{path_in}
use Rattle.edit_check.proofs.reach.box_of.Goals as goal

pub returns : goal.returns
returns g c =
    let m = g.S.Surface.mesh c.args.paths.now.mesh.now in
    let w = motion_by m c.args.paths.now.moves.now in
    let still = motion_by m [] in
    let k = c.args.corners.now in
    let one = c.box_of_vertex.ensures in
    let two = c.box_of_vertex-2.ensures in
    let three = c.box_of_vertex-3.ensures in
    let first : (p : Triple) → IsIn c.box_of_vertex.result p → IsIn c.united.result p = λ p h. c.united.ensures.first p (c.united-two.ensures.first p h) in
    let second : (p : Triple) → IsIn c.box_of_vertex-2.result p → IsIn c.united.result p = λ p h. c.united.ensures.first p (c.united-two.ensures.second p h) in
    let third : (p : Triple) → IsIn c.box_of_vertex-3.result p → IsIn c.united.result p = λ p h. c.united.ensures.second p h in
    record {
      way = record {
        c = path_in (path_along w k.first) c.box_of_vertex.result c.united.result first one.way;
        d = path_in (path_along w k.second) c.box_of_vertex-2.result c.united.result second two.way;
        e = path_in (path_along w k.third) c.box_of_vertex-3.result c.united.result third three.way;
      };
      standing = record {
        c = path_in (path_along still k.first) c.box_of_vertex.result c.united.result first one.standing;
        d = path_in (path_along still k.second) c.box_of_vertex-2.result c.united.result second two.standing;
        e = path_in (path_along still k.third) c.box_of_vertex-3.result c.united.result third three.standing;
      };
    }
