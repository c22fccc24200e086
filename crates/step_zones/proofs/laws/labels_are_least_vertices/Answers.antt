use Rattle.step_zones.proofs.Chained.{chain_of_labels, label_of_chain, label_in_block, label_below}
use Rattle.step_zones.proofs.laws.labels_are_least_vertices.Goals as goal

pub returns-clause-chains : goal.returns-clause-chains
returns-clause-chains c hits u v = (chain_of_labels hits u v, label_of_chain hits u v)

pub returns-clause-inside : goal.returns-clause-inside
returns-clause-inside c = label_in_block

pub returns-clause-least : goal.returns-clause-least
returns-clause-least c = label_below
