use Rattle.std.proofs.Common.{◌≡◌, ◌++◌, drop}
use Rattle.edit_collapse.proofs.Picked.{picked}
use Rattle.edit_collapse.proofs.changes.only_at.Given as goal

abbrev pub invariant-loop-f : goal.invariant-loop-f
invariant-loop-f g l = l.faces ++ picked (g.S.Surface.mesh l.mesh) l.other (drop l.f-index l.f-items) ≡ picked (g.S.Surface.mesh l.mesh) l.other l.f-items
