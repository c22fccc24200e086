use Rattle.std.proofs.Common.{[]}
use Rattle.edit_check.proofs.Premise.{clear_mesh_is}
use Rattle.edit_tests.proofs.calls.first_of_one.Goals as goal

pub check-requires-clause-clear : goal.check-requires-clause-clear
check-requires-clause-clear g c = clear_mesh_is c.in_ok-mesh.mesh.now [] 5 c.in_ok-mesh.ensures.clear
