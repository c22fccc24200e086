use Rattle.std.proofs.Common.{◌≡◌, ◌++◌, take}
use Rattle.std.specs.List.{filter}
use Rattle.mesh_base.specs.Near.{is_face_near}
use Rattle.mesh_journal.proofs.near.put_near.Given as goal

-- those of the items so far that are near
abbrev pub invariant-loop-item : goal.invariant-loop-item
invariant-loop-item g l = l.into.items ≡ l.initial.into.items ++ filter (λ f. is_face_near (g.T.FaceTable.mesh l.table) l.at f) (take l.item-index l.items)
