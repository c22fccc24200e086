use Rattle.std.proofs.Common.{◌∙◌}
use Rattle.pass_run.proofs.Placing.{edge_length}
use Rattle.pass_run.proofs.places.square_in.Goals as goal

pub returns : goal.returns
returns g c edge =
    c.square_between.ensures
    ∙ edge_length (g.S.Surface.mesh c.args.mesh.now) c.args.e.0 c.args.e.1 c.place_of.result c.place_of-2.result (g.met.S.Surface.sound c.args.mesh.now) c.place_of.ensures c.place_of-2.ensures edge
