use Rattle.std.proofs.Common.{◌≡◌, ◌≤◌, ◌+◌, length, take, drop}
use Rattle.mesh_shape.specs.Doubled.{HasFirsts}
use Rattle.mesh_shape.specs.ShapeFaults.{all_doubled_from}
use Rattle.mesh_shape.proofs.Turns.{AreSmallFaces}
use Rattle.mesh_shape.proofs.doubled.doubled_backward.Given as goal

-- the faces from the place i on are seen
abbrev pub invariant-loop-i : goal.invariant-loop-i
invariant-loop-i l = record {
  within : l.i ≤ length l.faces;
  small : AreSmallFaces (drop l.i l.faces);
  firsts : HasFirsts l.seen (l.i + 1) (drop l.i l.faces);
  found : l.list.items ≡ take l.most (all_doubled_from (l.i + 1) (drop l.i l.faces));
}

abbrev pub decreases-loop-i : goal.decreases-loop-i
decreases-loop-i l = l.i
