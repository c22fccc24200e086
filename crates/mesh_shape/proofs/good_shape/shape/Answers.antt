use Rattle.std.proofs.Common.{sym, ◌∙◌}
use Rattle.mesh_shape.proofs.Lists.{sound-mesh_under}
use Rattle.mesh_shape.proofs.Faults.{closed-mesh_under, at_fault}
use Rattle.mesh_shape.proofs.Earlier.{earlier_hold}
use Rattle.mesh_shape.proofs.good_shape.shape.Goals as goal

pub returns-in-Ok-None-clause-sound : goal.returns-in-Ok-None-clause-sound
returns-in-Ok-None-clause-sound c _ = sound-mesh_under c.args.scale c.args.lists.now.points c.args.lists.now.faces (sym c.in-Ok-None.ensures ∙ c.in-Ok-None.field-0-is)

pub returns-in-Ok-None-clause-closed : goal.returns-in-Ok-None-clause-closed
returns-in-Ok-None-clause-closed c _ = closed-mesh_under c.args.scale c.args.lists.now.points c.args.lists.now.faces (sym c.in-Ok-None.ensures ∙ c.in-Ok-None.field-0-is)

pub returns-in-Ok-Some-clause-just : goal.returns-in-Ok-Some-clause-just
returns-in-Ok-Some-clause-just c = at_fault c.args.scale c.args.lists.now.points c.args.lists.now.faces c.in-Ok-Some.fault (sym c.in-Ok-Some.ensures ∙ c.in-Ok-Some.field-0-is)

pub returns-in-Ok-Some-clause-earlier : goal.returns-in-Ok-Some-clause-earlier
returns-in-Ok-Some-clause-earlier c = earlier_hold c.args.scale c.args.lists.now.points c.args.lists.now.faces c.in-Ok-Some.fault (sym c.in-Ok-Some.ensures ∙ c.in-Ok-Some.field-0-is)
