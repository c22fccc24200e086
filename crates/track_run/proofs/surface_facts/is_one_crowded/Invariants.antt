use Rattle.std.proofs.Common.{drop}
use Rattle.track_run.proofs.FirstSides.{AreFirstBut}
use Rattle.track_run.proofs.surface_facts.is_one_crowded.Given as goal

-- where more than one face runs up along a side, all but those that are left are one, which is marked
abbrev pub invariant-loop-c : goal.invariant-loop-c
invariant-loop-c g l = AreFirstBut (g.S.Surface.mesh l.mesh) l.places (drop l.c-index l.faces) l.marks.items
