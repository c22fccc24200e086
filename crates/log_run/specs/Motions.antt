-- The motions of which the lines of a log tell, and what is made and found of them.
use Rattle.std.specs.Prelude.{◌≡◌, ⊤, ℕ, suc, IsNone, List, [], ◌∷◌, ◌++◌, map}
use Rattle.std.proofs.Common.{Option, Some, None}
use Rattle.grid_base.specs.Triples.{times}
use Rattle.grid_base.specs.declared.TheConstants.{DEPTH_MAX}
use Rattle.grid_decided.specs.Decided.{meets_exactly}
use Rattle.mesh_base.specs.declared.ShiftOf.{ShiftOf}
use Rattle.mesh_base.specs.Mesh.{Mesh}
use Rattle.mesh_base.specs.Pairs.{Pair, IsPair}
use Rattle.mesh_base.specs.Placements.{positions}
use Rattle.mesh_base.specs.Failing.{failing}
use Rattle.mesh_base.specs.Shifts.{Shifts}
use Rattle.edit_base.specs.declared.Move.{Move}
use Rattle.edit_base.specs.declared.Touch.TheVariants.{Never}
use Rattle.edit_base.specs.Scaffold.{Scaffold, motion_of, move_from_rest}
use Rattle.edit_any.specs.Dispatch.{scaffold_of}
use Rattle.edit_scaffold.specs.Made.{claim_of}
use Rattle.motion_proof.specs.declared.Claim.{Claim}
use Rattle.motion_proof.specs.declared.Entry.{Entry}
use Rattle.motion_proof.specs.declared.Made.{Made}
use Rattle.motion_proof.specs.declared.Verdict.{Verdict}
use Rattle.motion_proof.specs.Acceptance.{IsClearAs}
use Rattle.motion_proof.specs.Making.{PassesAs}
use Rattle.edit_proof.specs.Certified.{IsMadeOf, IsFoundOf}
use Rattle.log_text.specs.declared.LogLine.{LogLine}
use Rattle.log_text.specs.declared.LogLine.TheVariants.{Moved, Did}
use Rattle.log_replay.specs.Moves.{end_of}
use Rattle.log_replay.specs.Replay.{Replay, replayed, at_mesh}
use Rattle.log_run.specs.States.{LogState}
use Rattle.log_run.specs.Steps.{shifts_of}
use Rattle.log_run.specs.Fits.{LineFits}

-- where the vertex of a shift begins and ends, in half units
abbrev pub way_of : Mesh → ShiftOf → Move
way_of m s = move_from_rest m s.v (times 2 (end_of m s))

-- the ways of all live vertices in a step, by rising id
abbrev pub step_ways : Mesh → Shifts → List Move
step_ways m moves = map (way_of m) (shifts_of m moves)

-- The motion of which a line tells, as a mesh, how its vertices move and whether two may touch: of
-- a line that ends a step the mesh itself and the moves of the step; of an edit that on which it
-- was tested. A zip and any other line move nothing.
abbrev pub moved_in : Replay → LogLine → Option Scaffold
moved_in r (Moved how) =
    Some (record { mesh = r.mesh; moves = step_ways r.mesh r.moves; touch = Never; together = [] })
moved_in r (Did change) = scaffold_of r.mesh change
moved_in r _ = None

-- a motion, and the line of the log that tells of it
pub record MotionAt : Type 0 where
  pub line : ℕ
  pub motion : Scaffold

-- the motion of the line with this number, if it has one
abbrev pub one_motion : ℕ → Option Scaffold → List MotionAt
one_motion number None = []
one_motion number (Some motion) = record { line = number; motion = motion } ∷ []

-- the motions of lines from a replay on, the first of which has this number
abbrev pub motions_from : ℕ → Replay → List LogLine → List MotionAt
motions_from number r [] = []
motions_from number r (line ∷ lines) =
    one_motion number (moved_in r line) ++ motions_from (suc number) (replayed r line) lines

-- the motions of a log that begins with this mesh, in order
abbrev pub motions_of : Mesh → List LogLine → List MotionAt
motions_of m log = motions_from 1 (at_mesh m) log

-- What is made of the motion of a line: nothing, where the line has none if it fits; or the line
-- fits, and the rule makes this of its motion.
abbrev pub IsCertified : LogState → LogLine → Option Made → Type 0
IsCertified s line None = LineFits s line → IsNone (moved_in s.replay line)
IsCertified s line (Some made) = LineFits s line × IsMadeOf (moved_in s.replay line) made

-- What is found of a certificate for the motion of a line, in the same way.
abbrev pub IsJudged : LogState → LogLine → Claim → List Entry → Option Verdict → Type 0
IsJudged s line claim entries None = LineFits s line → IsNone (moved_in s.replay line)
IsJudged s line claim entries (Some v) =
    LineFits s line × IsFoundOf (moved_in s.replay line) claim entries v

-- a motion, where there is one, is clear as its kind claims
abbrev pub IsClearWhereMoved : Option Scaffold → Type 0
IsClearWhereMoved None = ⊤
IsClearWhereMoved (Some s) = IsClearAs (claim_of s.touch) s.mesh (motion_of s)

-- the pair passes in the motion, as that one's kind claims
abbrev pub PassesIn : Scaffold → Pair → Type 0
PassesIn s p =
    PassesAs (claim_of s.touch) (positions (motion_of s).start p) (positions (motion_of s).end p)

-- each pair of a motion, where there is one, passes
abbrev pub PassesWhereMoved : Option Scaffold → Type 0
PassesWhereMoved None = ⊤
PassesWhereMoved (Some s) = (p : Pair) → IsPair s.mesh p → PassesIn s p

-- no pair of a step that ends fails, tested to the greatest depth
abbrev pub StepHasNoneFailing : Replay → LogLine → Type 0
StepHasNoneFailing r (Moved how) = failing meets_exactly r.mesh r.moves DEPTH_MAX ≡ []
StepHasNoneFailing r _ = ⊤
