use Rattle.std.proofs.Common.{arith}
use Rattle.std.proofs.lemmas.Int.{ints}
use Rattle.mesh_measure.proofs.measured.euler_by.Goals as goal

pub overflow_cast-result-2 : goal.overflow_cast-result-2
overflow_cast-result-2 c = omega (arith, ints, c.requires.edges)

pub overflow_sub-result : goal.overflow_sub-result
overflow_sub-result c = omega (arith, ints, c.requires.vertices, c.requires.edges)

pub overflow_add-result : goal.overflow_add-result
overflow_add-result c = omega (arith, ints, c.requires.vertices, c.requires.edges, c.requires.faces)

pub returns : goal.returns
returns c = omega (arith, ints, c.requires.vertices, c.requires.edges, c.requires.faces)
