use Rattle.std.proofs.Common.{◌≡◌, ◌++◌, ◌≤◌, ◌+◌, drop}
use Rattle.grid_base.specs.declared.TheConstants.{ID_MAX}
use Rattle.edit_collapse.specs.Tried.{numbered}
use Rattle.edit_collapse.proofs.changes.put_numbered.Given as goal

-- the faces so far, and those that are left, are all; and no more ids are used than there are faces
abbrev pub invariant-loop-e : goal.invariant-loop-e
invariant-loop-e l =
    (l.faces ++ numbered l.b l.a l.next (drop l.e-index l.joining) ≡ l.fn.faces ++ numbered l.b l.a l.fn.first l.joining)
    × (l.next ≤ ID_MAX + 1 + l.e-index)
