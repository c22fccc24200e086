use Rattle.pair_paths.specs.Bounds.{HoldsFace}
use Rattle.edit_check.specs.SideBoxes.{HoldSides}
use Rattle.edit_check.proofs.Reached.{path_in}
use Rattle.edit_check.proofs.path_boxes.boxed_face.Goals as goal

pub invariant_of-result : goal.invariant_of-result
invariant_of-result c =
    let f = c.args.face in
    let whole : HoldsFace f c.united.result = record {
      c = path_in f.c c.united-first.result c.united.result c.united.ensures.first (path_in f.c c.box_of_path-c.result c.united-first.result c.united-first.ensures.first c.box_of_path-c.ensures);
      d = path_in f.d c.united-first.result c.united.result c.united.ensures.first (path_in f.d c.box_of_path-d.result c.united-first.result c.united-first.ensures.second c.box_of_path-d.ensures);
      e = path_in f.e c.box_of_path-e.result c.united.result c.united.ensures.second c.box_of_path-e.ensures;
    } in
    let sides : HoldSides f c.united-first.result c.united-2.result c.united-3.result = record {
      first_c = path_in f.c c.box_of_path-c.result c.united-first.result c.united-first.ensures.first c.box_of_path-c.ensures;
      first_d = path_in f.d c.box_of_path-d.result c.united-first.result c.united-first.ensures.second c.box_of_path-d.ensures;
      second_d = path_in f.d c.box_of_path-d.result c.united-2.result c.united-2.ensures.first c.box_of_path-d.ensures;
      second_e = path_in f.e c.box_of_path-e.result c.united-2.result c.united-2.ensures.second c.box_of_path-e.ensures;
      third_e = path_in f.e c.box_of_path-e.result c.united-3.result c.united-3.ensures.first c.box_of_path-e.ensures;
      third_c = path_in f.c c.box_of_path-c.result c.united-3.result c.united-3.ensures.second c.box_of_path-c.ensures;
    } in
    record { held = whole; sides = sides }
