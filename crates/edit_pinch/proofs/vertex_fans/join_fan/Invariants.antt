use Rattle.std.proofs.Common.{◌≡◌, ◌++◌, not, drop}
use Rattle.std.specs.List.{filter}
use Rattle.edit_pinch.specs.Parting.{share_other, face_ids}
use Rattle.edit_pinch.proofs.vertex_fans.join_fan.Given as goal

-- those so far, and those of the faces that are left, are all
abbrev pub invariant-loop-e : goal.invariant-loop-e
invariant-loop-e l =
    (l.rest ++ filter (λ e. not (share_other l.v l.c e.1)) (drop l.e-index l.left) ≡ filter (λ e. not (share_other l.v l.c e.1)) l.left)
    × (l.fan ++ face_ids (filter (λ e. share_other l.v l.c e.1) (drop l.e-index l.left)) ≡ l.fn.fan ++ face_ids (filter (λ e. share_other l.v l.c e.1) l.left))
