use Rattle.mesh_base.proofs.ListedPairs.{edge_listed, pair_listed}
use Rattle.mesh_base.proofs.InOrder.{edges_sorted, names_sorted}
use Rattle.mesh_base.proofs.laws.pairs_are_listed.Goals as goal

pub returns : goal.returns
returns c = record { edges = edge_listed; pairs = pair_listed; edges_rise = edges_sorted; pairs_rise = names_sorted }
