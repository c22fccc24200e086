use Rattle.log_fits.proofs.Measured.{mesh_lines_tell}
use Rattle.log_fits.proofs.laws.mesh_lines_tell.Goals as goal

pub returns : goal.returns
returns c = mesh_lines_tell
