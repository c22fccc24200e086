use Rattle.track_log.proofs.PrepareLemmas.{tests_none}
use Rattle.track_log.proofs.inputs.test_mesh.Goals as goal

pub returns-in-None : goal.returns-in-None
returns-in-None c = tests_none c.args.scale c.args.lists.now c.args.lines c.in_ok-mesh.mesh c.requires.good c.in_ok-mesh.ensures.mesh c.in_ok-first_meeting.field-0 c.in_ok-first_meeting.ensures.first c.in_ok-first_meeting.ensures.clear c.in-None.is
