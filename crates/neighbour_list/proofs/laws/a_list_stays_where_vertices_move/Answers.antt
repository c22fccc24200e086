use Rattle.neighbour_list.proofs.Stays.{stays_alike, stays_moved}
use Rattle.neighbour_list.proofs.laws.a_list_stays_where_vertices_move.Goals as goal

pub returns : goal.returns
returns c = record { alike = stays_alike; moved = stays_moved }
