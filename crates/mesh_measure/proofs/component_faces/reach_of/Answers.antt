use Rattle.mesh_measure.proofs.ComponentSteps.{led_is}
use Rattle.mesh_measure.proofs.component_faces.reach_of.Goals as goal

pub returns : goal.returns
returns g c u = led_is (g.S.Surface.mesh c.args.mesh.now) c.args.v c.new-met.result c.spread.new.met c.in_ok-us.us c.new-met.ensures.empty c.in_ok-us.ensures.met c.in_ok-us.ensures.new u
