-- Edges that share an end are never to be zipped.
use Rattle.std.proofs.Common.{◌≡◌, ℕ, true, false, arith}
use Rattle.std.proofs.lemmas.Grind.{common_steps}
use Rattle.mesh_base.specs.Mesh.{Mesh}
use Rattle.edit_zip.specs.Answer.{is_zip_ready}
use Rattle.pass_run.specs.MidpointCells.{share_an_end}

pub shared_not_ready : (m : Mesh) (e f : ℕ × ℕ) → share_an_end e f ≡ true → is_zip_ready m e.0 e.1 f.0 f.1 ≡ false
shared_not_ready m e f h = grind (arith, common_steps)
