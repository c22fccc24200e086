use Rattle.log_fits.proofs.Jobs.{mesh_logs_fit, job_logs_fit}
use Rattle.log_fits.proofs.laws.every_line_of_a_log_fits.Goals as goal

pub returns : goal.returns
returns c = record { meshes = mesh_logs_fit; jobs = job_logs_fit }
