use Rattle.run_laws.proofs.Names.{vertices_in_range, faces_in_range, edges_in_range, pairs_in_range, failing_in_range, meeting_in_range}
use Rattle.run_laws.proofs.Blocks.{blocks_in_range}
use Rattle.run_laws.proofs.laws.names_are_in_range.Goals as goal

pub returns : goal.returns
returns c = record {
  vertices = vertices_in_range;
  faces = faces_in_range;
  edges = edges_in_range;
  pairs = pairs_in_range;
  failing = failing_in_range;
  meeting = meeting_in_range;
  blocks = blocks_in_range;
}
