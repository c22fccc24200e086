use Rattle.run_laws.proofs.FirstVertex.{first_lives}
use Rattle.track_try.proofs.laws.each_summary_tells_where_vertex_1_stands.Goals as goal

pub returns : goal.returns
returns c = first_lives
