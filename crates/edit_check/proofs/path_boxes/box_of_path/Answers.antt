use Rattle.std.proofs.Common.{sym, subst}
use Rattle.pair_paths.specs.Bounds.{HoldsPath}
use Rattle.edit_check.proofs.path_boxes.box_of_path.Goals as goal

pub returns : goal.returns
returns c =
    let held : HoldsPath c.args.w.now c.bounds.result = c.bounds.ensures in
    subst (HoldsPath c.args.w.now) (sym c.of.ensures) held
