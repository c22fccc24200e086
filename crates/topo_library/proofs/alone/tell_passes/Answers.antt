use Rattle.std.proofs.Common.{arith}
use Rattle.grid_base.specs.Separation.{Passes}
use Rattle.topo_library.specs.Alone.{CanPass, places}
use Rattle.topo_library.proofs.Tested.{answered_at}
use Rattle.topo_library.proofs.alone.tell_passes.Goals as goal

pub returns-clause-tests : goal.returns-clause-tests
returns-clause-tests c =
    let start = c.args.start.now in
    let end = c.args.end.now in
    answered_at (CanPass c.args.depth start end) (Passes c.args.depth) c.in-Some.s c.in-Some-places.t (places start) (places end) c.in-Some.ensures.1 c.in-Some-places.ensures.1
    c.pass_at.result c.pass_at.ensures.exact (record { deep = omega arith; from = c.in-Some.ensures.0; to = c.in-Some-places.ensures.0 }) _ c.from-2.result c.from-2.ensures
