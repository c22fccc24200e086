use Rattle.std.proofs.Common.{drop}
use Rattle.track_run.proofs.Marking.{AreMarkedBut}
use Rattle.track_run.proofs.surface_facts.mark_faces.Given as goal

-- those that rise have a mark, or one of the faces that are left has them the other way round
abbrev pub invariant-loop-c : goal.invariant-loop-c
invariant-loop-c l = AreMarkedBut l.places l.faces (drop l.c-index l.faces) l.marks.items
