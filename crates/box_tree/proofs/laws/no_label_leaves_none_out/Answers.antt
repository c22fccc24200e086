use Rattle.box_tree.proofs.Answered.{apart_from_none}
use Rattle.box_tree.proofs.laws.no_label_leaves_none_out.Goals as goal

pub returns : goal.returns
returns c = apart_from_none
