-- What is asked at the turns of candidates, by whatever chooses it.
use Rattle.std.specs.Prelude.{◌≡◌, ⊤, Bool, false, is_ok, List, [], ◌∷◌, ◌++◌, Option, Result, if◌then◌else◌}
use Rattle.mesh_base.specs.Mesh.{Mesh}
use Rattle.edit_base.specs.declared.Asked.{Asked}
use Rattle.edit_base.specs.declared.Edit.{Edit}
use Rattle.log_text.specs.declared.LogLine.{LogLine}
use Rattle.outside_io.specs.declared.stop.Stop.{Stop}
use Rattle.pass_run.specs.declared.passes.PassCount.{PassCount}
use Rattle.pass_run.specs.PassLines.{lines_asked, mesh_asked, ends}
use Rattle.pass_run.specs.Results.{Stage, PassResult}

-- the lines, from a mesh on, of what is asked at turns, if anything
abbrev pub lines_at_turns : (Mesh → Asked → Edit) → Bool → Mesh → List (Option Asked) → List LogLine
lines_at_turns answer grouped m [] = []
lines_at_turns answer grouped m (call ∷ calls) =
    let lines = lines_asked (answer m) call in
    lines ++ (if ends grouped lines then []
    else lines_at_turns answer grouped (mesh_asked (answer m) m call) calls)

-- At each candidate's turn this may be chosen in the mesh as it then is, if anything. After the end
-- of a pass no turn is left; one that is cut off comes to the first of the candidates alone.
abbrev pub AreChosen : (Mesh → Asked → Option Asked → Type 0) → (Mesh → Asked → Edit) → Bool →
    Bool → Mesh → List Asked → List (Option Asked) → Type 0
AreChosen may_choose answer grouped whole m [] [] = ⊤
AreChosen may_choose answer grouped whole m [] (call ∷ calls) = ⊥
AreChosen may_choose answer grouped whole m (what ∷ rest) [] = whole ≡ false
AreChosen may_choose answer grouped whole m (what ∷ rest) (call ∷ calls) =
    may_choose m what call
    × (ends grouped (lines_asked (answer m) call) ≡ false →
    AreChosen may_choose answer grouped whole (mesh_asked (answer m) m call) rest calls)

-- the candidates have their turns
pub record TakesTurns (may_choose : Mesh → Asked → Option Asked → Type 0)
    (answer : Mesh → Asked → Edit) (grouped : Bool) (candidates : List Asked) (old new : Stage)
    (result : Result PassCount Stop) : Type 0 where
  pub calls : List (Option Asked)
  pub chosen : AreChosen may_choose answer grouped (is_ok result) old.mesh candidates calls
  pub takes : PassResult (lines_at_turns answer grouped old.mesh calls) old new result
