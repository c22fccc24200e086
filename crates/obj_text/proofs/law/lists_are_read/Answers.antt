use Rattle.obj_text.proofs.ListsAgain.{lists_are_written_as_mesh_lem, lists_are_read_lem}
use Rattle.obj_text.proofs.law.lists_are_read.Goals as goal

pub returns-clause-as_mesh : goal.returns-clause-as_mesh
returns-clause-as_mesh c = lists_are_written_as_mesh_lem

pub returns-clause-read : goal.returns-clause-read
returns-clause-read c = lists_are_read_lem
