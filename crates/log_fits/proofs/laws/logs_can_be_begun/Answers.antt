use Rattle.log_fits.proofs.Begun.{logs_can_be_begun, heads_make_the_mesh, callers_begin_logs, logs_are_of_their_files}
use Rattle.log_fits.proofs.laws.logs_can_be_begun.Goals as goal

pub returns : goal.returns
returns c = record { logs = logs_can_be_begun; heads = heads_make_the_mesh; callers = callers_begin_logs; files = logs_are_of_their_files }
