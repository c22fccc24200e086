use Rattle.mesh_faults.proofs.Still.{are_meeting, first_is_first_meeting}
use Rattle.mesh_faults.proofs.intersections.meeting_pairs.Goals as goal

pub returns-in_err-found-clause-each : goal.returns-in_err-found-clause-each
returns-in_err-found-clause-each g c = are_meeting (g.S.Surface.mesh c.args.mesh.now) (g.met.S.Surface.sound c.args.mesh.now)

pub returns-in_err-found-clause-first : goal.returns-in_err-found-clause-first
returns-in_err-found-clause-first g c = first_is_first_meeting (g.S.Surface.mesh c.args.mesh.now)

pub returns-clause-each : goal.returns-clause-each
returns-clause-each g c = are_meeting (g.S.Surface.mesh c.args.mesh.now) (g.met.S.Surface.sound c.args.mesh.now)

pub returns-clause-first : goal.returns-clause-first
returns-clause-first g c = first_is_first_meeting (g.S.Surface.mesh c.args.mesh.now)
