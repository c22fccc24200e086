use Rattle.std.proofs.Common.{arith, refl}
use Rattle.track_input.proofs.ReadLemmas.{reads_yes}
use Rattle.track_input.proofs.inputs.read_all.Goals as goal

pub returns-in-Ok-read_steps : goal.returns-in-Ok-read_steps
returns-in-Ok-read_steps c = reads_yes c.args.scale c.args.decimals c.args.mesh.now c.args.steps.now c.in-Ok.lists c.in-Ok-read_steps.steps c.in-Ok.ensures (c.in-Ok-shape.ensures.none refl) c.in-Ok-read_steps.ensures.value (omega (arith, c.in-Ok-read_steps.ensures.few)) c.in-Ok-read_steps.ensures.ranges
