-- Each line that names no other version than a later one is one of that version.
use Rattle.std.proofs.Common.{◌≡◌, ℕ, Bool, true, sym, subst}
use Rattle.edit_base.specs.declared.Why.{Why}
use Rattle.edit_base.specs.declared.Why.TheVariants as reason
use Rattle.line_text.specs.declared.TextWhy.{TextWhy}
use Rattle.mesh_base.specs.declared.FileWord.{FileWord}
use Rattle.mesh_base.specs.declared.FileWord.TheVariants as file
use Rattle.mesh_base.specs.declared.Scale.{Scale}
use Rattle.mesh_base.specs.declared.UseWhy.{UseWhy}
use Rattle.mesh_base.specs.declared.UseWhy.TheVariants as using
use Rattle.log_text.specs.declared.LogLine.{LogLine}
use Rattle.log_text.specs.declared.LogLine.TheVariants as line
use Rattle.log_text.specs.declared.Refusal.{Refusal}
use Rattle.log_text.specs.declared.Refusal.TheVariants as refusal
use Rattle.log_read.specs.Values.{is_later}
use Rattle.log_read.specs.Laws.{IsWhyOf, IsFileOfVersion, IsRefusalInRange, IsInRange, IsReasonOfVersion, IsUseOfVersion, IsRefusalOfVersion, IsOfVersion, NamesOnly}

module _ (version : ℕ) (later : is_later version ≡ true) where
  pub latest_why : (w : TextWhy) → IsWhyOf true w → IsWhyOf (is_later version) w
  latest_why w r = subst (λ (groups : Bool). IsWhyOf groups w) (sym later) r

  pub latest_reason : (w : Why) → IsReasonOfVersion version w
  latest_reason reason.Solid = later
  latest_reason _ = tt

  pub latest_use : (w : UseWhy) → IsUseOfVersion version w
  latest_use (using.Solid v) = later
  latest_use _ = tt

  pub latest_file : (f : FileWord) → IsFileOfVersion version f
  latest_file file.Log = later
  latest_file file.Proof = later
  latest_file _ = tt

  pub latest_refusal : (w : Refusal) → IsRefusalInRange w → IsRefusalOfVersion version w
  latest_refusal (refusal.Long name seen) r = latest_file name
  latest_refusal (refusal.Missing name) r = latest_file name
  latest_refusal (refusal.Steps fault) r = latest_why fault.why r.1
  latest_refusal (refusal.StepUse at w) r = latest_use w
  latest_refusal _ r = tt

  pub latest_line : (scale : Scale) (l : LogLine) → IsInRange scale l → NamesOnly version l → IsOfVersion version l
  latest_line scale (line.First v) r n = n
  latest_line scale (line.Vertices new) r n = n
  latest_line scale (line.Faces new) r n = n
  latest_line scale (line.Solid v) r n = later
  latest_line scale line.PassFit r n = later
  latest_line scale line.Group r n = later
  latest_line scale (line.Close kept) r n = later
  latest_line scale (line.No what w) r n = latest_reason w
  latest_line scale (line.Refused w) r n = latest_refusal w r
  latest_line scale _ r n = tt
