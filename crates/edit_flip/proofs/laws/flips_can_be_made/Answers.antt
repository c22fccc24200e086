use Rattle.edit_base.specs.Edges.{edge_of}
use Rattle.edit_base.proofs.Beside.{beside_of}
use Rattle.edit_flip.proofs.FlipCounts.{flip_over}
use Rattle.edit_flip.proofs.FlipSound.{both_fresh}
use Rattle.edit_flip.proofs.laws.flips_can_be_made.Goals as goal

pub returns : goal.returns
returns c = record {
  room = λ m u v sound closed edge at. flip_over m (edge_of m u v) sound (beside_of m u v sound closed edge) at;
  faces = λ m u v sound closed edge c_d no_edge. both_fresh m (edge_of m u v) sound (beside_of m u v sound closed edge) c_d no_edge;
}
