-- What a list of log lines makes of a mesh.
use Rattle.std.specs.Prelude.{⊤, Bool, true, false, List, [], ◌∷◌, ◌++◌}
use Rattle.mesh_base.specs.declared.ShiftOf.{ShiftOf}
use Rattle.mesh_base.specs.Mesh.{Mesh}
use Rattle.mesh_base.specs.Changes.{with_solid}
use Rattle.mesh_base.specs.Shifts.{with_moves}
use Rattle.mesh_ids.specs.NewIds.{with_vertex_ids, with_face_ids}
use Rattle.edit_any.specs.Dispatch.{edited}
use Rattle.log_text.specs.declared.LogLine.{LogLine}
use Rattle.log_text.specs.declared.LogLine.TheVariants.{Step, Vertices, Faces, Solid, Move, Moved, Did, Group, Close}

-- the mesh, the shifts of the `move` lines since the last `step` line that no `moved` line has used
-- up, and the meshes at which the open groups were opened, the innermost first
pub record Replay : Type 0 where
  pub mesh : Mesh
  pub moves : List ShiftOf
  pub stack : List Mesh

-- the innermost group is closed: kept, or taken back to the mesh at which it was opened;
-- nothing changes where none is open
abbrev pub closed : Bool → List Mesh → Replay → Replay
closed kept [] r = r
closed true (m ∷ outer) r = record r { stack = outer }
closed false (m ∷ outer) r = record r { mesh = m; stack = outer }

-- what one line makes
abbrev pub replayed : Replay → LogLine → Replay
replayed r (Step k) = record r { moves = [] }
replayed r (Vertices new) = record r { mesh = with_vertex_ids r.mesh new.ids new.next }
replayed r (Faces new) = record r { mesh = with_face_ids r.mesh new.ids new.next }
replayed r (Solid v) = record r { mesh = with_solid r.mesh v }
replayed r (Move s) = record r { moves = r.moves ++ s ∷ [] }
replayed r (Moved how) = record r { mesh = with_moves r.mesh r.moves; moves = [] }
replayed r (Did change) = record r { mesh = edited r.mesh change }
replayed r Group = record r { stack = r.mesh ∷ r.stack }
replayed r (Close kept) = closed kept r.stack r
replayed r _ = r

-- what the lines make, in order
abbrev pub after : Replay → List LogLine → Replay
after r [] = r
after r (l ∷ ls) = after (replayed r l) ls

-- the replay of a log that led to the mesh, between two steps and within groups
-- that were opened at these meshes
abbrev pub at_mesh_in_groups : Mesh → List Mesh → Replay
at_mesh_in_groups m stack = record { mesh = m; moves = []; stack = stack }

-- the same where no group is open
abbrev pub at_mesh : Mesh → Replay
at_mesh m = at_mesh_in_groups m []

-- the mesh that these lines make of a mesh
abbrev pub mesh_after_lines : Mesh → List LogLine → Mesh
mesh_after_lines m lines = (after (at_mesh m) lines).mesh

-- each of the lines keeps a promise, at the replay where it stands
abbrev pub EachAt : (Replay → LogLine → Type 0) → Replay → List LogLine → Type 0
EachAt Keeps r [] = ⊤
EachAt Keeps r (line ∷ lines) = Keeps r line × EachAt Keeps (replayed r line) lines
