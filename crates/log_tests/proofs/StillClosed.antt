-- A line leaves closed meshes closed.
use Rattle.std.proofs.Common.{◌≡◌, Bool, true, false, List, [], ◌∷◌, refl, subst}
use Rattle.std.specs.Bool.{MatchBool}
use Rattle.std.specs.List.{AllByRecursion}
use Rattle.mesh_base.specs.Mesh.{Mesh}
use Rattle.mesh_base.specs.Sides.{IsClosed}
use Rattle.mesh_base.proofs.Moves.{closed-with_moves}
use Rattle.mesh_ids.proofs.Taken.{vertices_stay_valid, faces_stay_valid}
use Rattle.log_text.specs.declared.LogLine.{LogLine}
use Rattle.log_text.specs.declared.LogLine.TheVariants as line
use Rattle.log_replay.specs.Replay.{closed}
use Rattle.log_run.specs.States.{LogState, with_line, without_lines}
use Rattle.log_run.specs.Fits.{FitsLater, FitsFirst, LineFits, MayBeTried}
use Rattle.log_tests.specs.Closed.{AreClosed, MayBeNamed}

pub none_taken : (m : Mesh) → IsClosed m → AreClosed (without_lines m)
none_taken m h = record { now = h; groups = tt }

-- a group that is closed
group_closed : (s : LogState) (kept : Bool) (stack : List Mesh) → s.replay.stack ≡ stack → AreClosed s → AreClosed (record s { replay = closed kept stack s.replay; has_line = true })
group_closed s kept [] e h = record { now = h.now; groups = h.groups }
group_closed s true (m ∷ outer) e h =
    let all : AllByRecursion IsClosed (m ∷ outer) = subst (AllByRecursion IsClosed) e h.groups in
    record { now = h.now; groups = all.1 }
group_closed s false (m ∷ outer) e h =
    let all : AllByRecursion IsClosed (m ∷ outer) = subst (AllByRecursion IsClosed) e h.groups in
    record { now = all.0; groups = all.1 }

-- a line behind others
later_closed : (s : LogState) (l : LogLine) → FitsLater s l → MayBeNamed s.replay.mesh l → MayBeTried (with_line s l).replay.mesh l → AreClosed s → AreClosed (with_line s l)
later_closed s (line.Vertices new) fits named tried h = record { now = (vertices_stay_valid s.replay.mesh new.ids new.next fits.2 named).closed; groups = h.groups }
later_closed s (line.Faces new) fits named tried h = record { now = (faces_stay_valid s.replay.mesh new.ids new.next fits.2 named).closed; groups = h.groups }
later_closed s (line.Moved how) fits named tried h = record { now = closed-with_moves s.replay.mesh s.replay.moves h.now; groups = h.groups }
later_closed s (line.Did change) fits named tried h = record { now = tried.0; groups = h.groups }
later_closed s line.Group fits named tried h = record { now = h.now; groups = (h.now, h.groups) }
later_closed s (line.Close kept) fits named tried h = group_closed s kept s.replay.stack refl h
later_closed s l fits named tried h = record { now = h.now; groups = h.groups }

-- the first line
first_closed : (s : LogState) (l : LogLine) → FitsFirst l → AreClosed s → AreClosed (with_line s l)
first_closed s (line.First version) fits h = record { now = h.now; groups = h.groups }
first_closed s l fits h = absurd fits

by_line : (s : LogState) (l : LogLine) (b : Bool) → MatchBool b (FitsLater s l) (FitsFirst l) → MayBeNamed s.replay.mesh l → MayBeTried (with_line s l).replay.mesh l → AreClosed s → AreClosed (with_line s l)
by_line s l true fits named tried h = later_closed s l fits named tried h
by_line s l false fits named tried h = first_closed s l fits h

pub still_closed : (s : LogState) (l : LogLine) → LineFits s l → MayBeNamed s.replay.mesh l → MayBeTried (with_line s l).replay.mesh l → AreClosed s → AreClosed (with_line s l)
still_closed s l fits named tried h = by_line s l s.has_line fits named tried h
