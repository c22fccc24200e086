use Rattle.track_log.proofs.PrepareLemmas.{reads_answer}
use Rattle.track_log.proofs.inputs.read_and_test.Goals as goal

pub returns-in-Yes : goal.returns-in-Yes
returns-in-Yes c = reads_answer c.args.scale c.args.decimals c.args.mesh.items c.args.log.items c.in_ok-why.field-0 c.in-Yes.lists c.in-Yes.lines c.test_mesh.result c.in_ok-why.ensures c.in-Yes.is c.test_mesh.ensures
