use Rattle.mesh_base.proofs.MovesNamed.{name_once, name_once_filtered, shift_filtered, end_filtered}
use Rattle.mesh_base.proofs.laws.moves_of_nothing_may_be_left_out.Goals as goal

pub returns : goal.returns
returns c = record {
  named = name_once;
  left = name_once_filtered;
  shift = λ test m moves zero names v. shift_filtered test moves v zero names.once;
  ends = end_filtered;
}
