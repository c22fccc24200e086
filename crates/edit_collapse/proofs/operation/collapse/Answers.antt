use Rattle.edit_collapse.proofs.Ended.{in_order, exchanged, stays_closed, stays_clear, moved_clear}
use Rattle.edit_collapse.proofs.operation.collapse.Goals as goal

pub returns-then-le-clause-answer : goal.returns-then-le-clause-answer
returns-then-le-clause-answer g c = in_order (g.S.Surface.mesh c.args.mesh.now) c.args.a c.args.b c.args.depth c.collapse_ordered.result c.collapse_ordered.ensures.ordered c.collapse_ordered.ensures.answer

pub returns-then-le-clause-closed : goal.returns-then-le-clause-closed
returns-then-le-clause-closed g c = stays_closed (g.S.Surface.mesh c.args.mesh.now) c.args.a c.args.b c.args.depth (g.met.S.Surface.sound c.args.mesh.now) c.requires.closed c.collapse_ordered.result (g.S.Surface.mesh c.collapse_ordered.new.mesh) c.collapse_ordered.ensures.mesh (returns-then-le-clause-answer g c)

pub returns-then-le-clause-clear : goal.returns-then-le-clause-clear
returns-then-le-clause-clear g c = stays_clear (g.S.Surface.mesh c.args.mesh.now) c.args.a c.args.b c.args.depth (g.met.S.Surface.sound c.args.mesh.now) c.requires.closed c.collapse_ordered.result (g.S.Surface.mesh c.collapse_ordered.new.mesh) c.collapse_ordered.ensures.mesh (returns-then-le-clause-answer g c) c.requires.clear

pub returns-then-le-clause-motion : goal.returns-then-le-clause-motion
returns-then-le-clause-motion g c = moved_clear (g.S.Surface.mesh c.args.mesh.now) c.args.a c.args.b c.args.depth (g.met.S.Surface.sound c.args.mesh.now) c.requires.closed c.collapse_ordered.result (g.S.Surface.mesh c.collapse_ordered.new.mesh) c.collapse_ordered.ensures.mesh (returns-then-le-clause-answer g c)

pub returns-else-le-clause-answer : goal.returns-else-le-clause-answer
returns-else-le-clause-answer g c = exchanged (g.S.Surface.mesh c.args.mesh.now) c.args.a c.args.b c.args.depth c.collapse_ordered-else-le.result c.collapse_ordered-else-le.ensures.ordered c.collapse_ordered-else-le.ensures.answer

pub returns-else-le-clause-closed : goal.returns-else-le-clause-closed
returns-else-le-clause-closed g c = stays_closed (g.S.Surface.mesh c.args.mesh.now) c.args.a c.args.b c.args.depth (g.met.S.Surface.sound c.args.mesh.now) c.requires.closed c.collapse_ordered-else-le.result (g.S.Surface.mesh c.collapse_ordered-else-le.new.mesh) c.collapse_ordered-else-le.ensures.mesh (returns-else-le-clause-answer g c)

pub returns-else-le-clause-clear : goal.returns-else-le-clause-clear
returns-else-le-clause-clear g c = stays_clear (g.S.Surface.mesh c.args.mesh.now) c.args.a c.args.b c.args.depth (g.met.S.Surface.sound c.args.mesh.now) c.requires.closed c.collapse_ordered-else-le.result (g.S.Surface.mesh c.collapse_ordered-else-le.new.mesh) c.collapse_ordered-else-le.ensures.mesh (returns-else-le-clause-answer g c) c.requires.clear

pub returns-else-le-clause-motion : goal.returns-else-le-clause-motion
returns-else-le-clause-motion g c = moved_clear (g.S.Surface.mesh c.args.mesh.now) c.args.a c.args.b c.args.depth (g.met.S.Surface.sound c.args.mesh.now) c.requires.closed c.collapse_ordered-else-le.result (g.S.Surface.mesh c.collapse_ordered-else-le.new.mesh) c.collapse_ordered-else-le.ensures.mesh (returns-else-le-clause-answer g c)
