use Rattle.edit_base.specs.Edges.{edge_of}
use Rattle.edit_base.proofs.Beside.{beside_of}
use Rattle.edit_split.proofs.SplitCounts.{split_over}
use Rattle.edit_split.proofs.SplitSound.{all_fresh}
use Rattle.edit_split.proofs.laws.splits_can_be_made.Goals as goal

pub returns : goal.returns
returns c = record {
  room = λ m u v sound closed edge at. split_over m (edge_of m u v) sound (beside_of m u v sound closed edge) at;
  faces = λ m u v sound closed edge at. all_fresh m (edge_of m u v) at sound (beside_of m u v sound closed edge);
}
