-- The lines of what is asked, if anything.
use Rattle.std.proofs.Common.{◌≡◌, [], ◌∷◌, Option, Some, None, ap}
use Rattle.mesh_base.specs.Mesh.{Mesh}
use Rattle.edit_base.specs.declared.Asked.{Asked}
use Rattle.edit_base.specs.declared.Edit.{Edit}
use Rattle.log_text.specs.declared.LogLine.{LogLine}
use Rattle.log_replay.specs.Replay.{at_mesh}
use Rattle.pass_run.specs.PassLines.{line_of, lines_asked, mesh_asked}
use Rattle.pass_run.specs.Results.{line_asked}
use Rattle.pass_run.specs.Said.{LeadTo}
use Rattle.pass_run.proofs.Asking.{call_makes, leads_where}

module _ (answer : Asked → Edit) where
  -- what is asked has one
  pub one_asked : (call : Option Asked) (line : LogLine) → line_asked answer call ≡ Some line → lines_asked answer call ≡ line ∷ []
  one_asked None line e = cc
  one_asked (Some what) line e = let same : line_of what (answer what) ≡ line = cc in ap (λ l. l ∷ []) same

  -- they lead to the mesh that it leaves
  pub asked_leads : (m to : Mesh) (call : Option Asked) → to ≡ mesh_asked answer m call → LeadTo (lines_asked answer call) m to
  asked_leads m to call is = leads_where m (mesh_asked answer m call) (lines_asked answer call) to (call_makes answer (at_mesh m) call) is
