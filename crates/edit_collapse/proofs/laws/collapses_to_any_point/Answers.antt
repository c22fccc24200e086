use Rattle.edit_collapse.proofs.CollapseKeeps.{to_point_is_sound, to_point_is_closed, to_point_is_clear}
use Rattle.edit_collapse.proofs.laws.collapses_to_any_point.Goals as goal

pub returns : goal.returns
returns c = record {
  closed = λ m u v sound closed edge at. to_point_is_closed m u v at sound closed edge;
  sound = λ m u v sound closed edge at. to_point_is_sound m u v at sound closed edge;
  clear = λ meets exact m u v sound closed edge at depth none. to_point_is_clear m u v at sound closed edge meets exact depth none;
}
