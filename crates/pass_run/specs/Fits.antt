-- The lines of a pass by a sizing: of each edge that stands at its turn, the
-- edit that is wanted of it there.
use Rattle.std.specs.Prelude.{◌≡◌, ⊤, ℕ, Bool, true, false, is_ok, List, [], ◌∷◌, ◌++◌}
use Rattle.std.specs.Prelude.{map, Option, Some, None, Result, IfOk, OnOk, if◌then◌else◌}
use Rattle.grid_base.specs.declared.Positions.{Positions}
use Rattle.grid_base.specs.declared.Point.{Point}
use Rattle.grid_decided.specs.Decided.{meets_exactly}
use Rattle.mesh_base.specs.Mesh.{Mesh}
use Rattle.mesh_base.specs.Pairs.{edges, is_edge}
use Rattle.mesh_base.specs.Placements.{point_of}
use Rattle.mesh_sizing.specs.declared.sizing.Band.{Band}
use Rattle.mesh_sizing.specs.declared.sizing.Want.{Want}
use Rattle.mesh_sizing.specs.declared.sizing.Want.TheVariants.{Split, Collapse, Leave}
use Rattle.mesh_sizing.specs.Sizes.{want_of}
use Rattle.edit_base.specs.declared.Asked.{Asked}
use Rattle.edit_base.specs.declared.Asked.TheVariants as asked
use Rattle.edit_base.specs.Edges.{floor_mid}
use Rattle.log_text.specs.declared.LogLine.{LogLine}
use Rattle.log_text.specs.declared.LogLine.TheVariants as line
use Rattle.log_replay.specs.Replay.{at_mesh}
use Rattle.log_replay.specs.Safe.{LinesKeepTheMesh}
use Rattle.pass_run.specs.declared.passes.PassCount.{PassCount}
use Rattle.pass_run.specs.Candidates.{length_squared}
use Rattle.pass_run.specs.PassLines.{PassRules, lines_of, mesh_from, ends, lines_from, mesh_after_all, done_in, refused_in}
use Rattle.pass_run.specs.Said.{Said}

-- ---- what is wanted of edges
-- the edit of an edge of which this is wanted
abbrev pub call_of : Want → ℕ × ℕ → Option Asked
call_of Split e = Some (asked.Split e.0 e.1)
call_of Collapse e = Some (asked.Collapse e.0 e.1)
call_of Leave e = None

-- the same of an edge that may not stand; of one that does not, nothing is asked
abbrev pub call_in : Mesh → Want → ℕ × ℕ → Option Asked
call_in m want e = if is_edge m e.0 e.1 then call_of want e else None

-- the candidate of an edge: its split, in place of which that edit is asked which is wanted of it
abbrev pub turn_of : ℕ × ℕ → Asked
turn_of e = asked.Split e.0 e.1

-- what is asked at a candidate's turn, by what is wanted of each edge
abbrev pub choice_by : (ℕ × ℕ → Want) → Mesh → Asked → Option Asked
choice_by wants m (asked.Split a b) = call_in m (wants (a, b)) (a, b)
choice_by wants m _ = None

-- the rules of a pass by a sizing
abbrev pub fit_rules : (Positions → Bool) → (ℕ × ℕ → Want) → ℕ → Bool → PassRules
fit_rules meets wants depth grouped =
    record { meets = meets; choice = choice_by wants; depth = depth; grouped = grouped }

-- ---- what may be wanted
-- the middle of two vertices, each component rounded down
abbrev pub middle_of : Mesh → ℕ × ℕ → Point
middle_of m e = floor_mid (point_of m e.0) (point_of m e.1)

-- By a band that may be answered at its middle, this is wanted of an edge.
pub record IsWanted (may_answer : Point → Band → Type 0) (m : Mesh) (e : ℕ × ℕ)
    (want : Want) : Type 0 where
  pub band : Band
  pub answer : may_answer (middle_of m e) band
  pub value : want ≡ want_of band (length_squared m e.0 e.1)

-- Each want may be answered at its edge's turn, in the mesh as it then is, where the edge stands.
-- After the end of a pass none is asked.
abbrev pub AreWanted : (Point → Band → Type 0) → PassRules → (ℕ × ℕ → Want) → Mesh → List (ℕ × ℕ) →
    Type 0
AreWanted may_answer rules wants m [] = ⊤
AreWanted may_answer rules wants m (e ∷ es) =
    (is_edge m e.0 e.1 ≡ true → IsWanted may_answer m e (wants e))
    × (ends rules.grouped (lines_of rules m (turn_of e)) ≡ false →
    AreWanted may_answer rules wants (mesh_from rules m (turn_of e)) es)

-- what may be asked of an edge at its turn, if anything
pub record Calls (may_answer : Point → Band → Type 0) (m : Mesh) (e : ℕ × ℕ)
    (call : Option Asked) : Type 0 where
  pub want : Want
  pub wanted : is_edge m e.0 e.1 ≡ true → IsWanted may_answer m e want
  pub value : call ≡ call_in m want e

-- what may be asked at a candidate's turn
abbrev pub MayCall : (Point → Band → Type 0) → Mesh → Asked → Option Asked → Type 0
MayCall may_answer m (asked.Split a b) call = Calls may_answer m (a, b) call
MayCall may_answer m _ call = call ≡ None

-- ---- the lines
-- the lines of a pass by a sizing over these edges, by what is wanted of each
abbrev pub fit_lines : (Positions → Bool) → (ℕ × ℕ → Want) → ℕ → Bool → Mesh → List (ℕ × ℕ) →
    List LogLine
fit_lines meets wants depth grouped m es =
    line.PassFit ∷ lines_from (fit_rules meets wants depth grouped) m (map turn_of es)

-- the mesh after it
abbrev pub mesh_after_fit : (Positions → Bool) → (ℕ × ℕ → Want) → ℕ → Bool → Mesh → List (ℕ × ℕ) →
    Mesh
mesh_after_fit meets wants depth grouped m es =
    mesh_after_all (fit_rules meets wants depth grouped) m (map turn_of es)

-- The lines of a pass by a sizing over a mesh, and the mesh that it leaves; of one that is
-- cut off, those of its first edges.
pub record AreFitLines (may_answer : Point → Band → Type 0) (meets : Positions → Bool) (depth : ℕ)
    (grouped whole : Bool) (m : Mesh) (lines : List LogLine) (end : Mesh) : Type 0 where
  pub wants : ℕ × ℕ → Want
  pub first : List (ℕ × ℕ)
  pub rest : List (ℕ × ℕ)
  pub split : first ++ rest ≡ edges m
  pub all : whole ≡ true → rest ≡ []
  pub wanted : AreWanted may_answer (fit_rules meets wants depth grouped) wants m first
  pub are : lines ≡ fit_lines meets wants depth grouped m first
  pub leaves : end ≡ mesh_after_fit meets wants depth grouped m first

-- The lines of a pass by a sizing were said, or the first of them, and counted. Each edit that they
-- tell is safe where it stands, and each line leaves a mesh that is sound, closed and clear.
pub record Fits {E : Type 0} (may_answer : Point → Band → Type 0) (depth : ℕ) (grouped : Bool)
    (from to : Mesh) (old new : Option (List ℕ)) (result : Result PassCount E) : Type 0 where
  pub lines : List LogLine
  pub end : Mesh
  pub fit : AreFitLines may_answer meets_exactly depth grouped (is_ok result) from lines end
  pub said : Said from to old new lines result
  pub mesh : OnOk result (to ≡ end)
  pub done : IfOk result (λ count. count.done ≡ done_in lines)
  pub refused : IfOk result (λ count. count.refused ≡ refused_in lines)
  pub motions : LinesKeepTheMesh (at_mesh from) lines
