use Rattle.std.proofs.Common.{◌≡◌, true}
use Rattle.mesh_journal.specs.Journal.{mesh_in, kept_in}
use Rattle.log_run.proofs.Calls.{first_stays}
use Rattle.log_run.proofs.lines.take_line.Goals as goal

pub returns-else-taken-clause-fits : goal.returns-else-taken-clause-fits
returns-else-taken-clause-fits c = rw c.if-taken.false c.is_first.ensures

pub returns-else-taken-clause-made : goal.returns-else-taken-clause-made
returns-else-taken-clause-made c e =
    let first : c.is_first.result ≡ true = cc in
    first_stays (mesh_in c.args.mesh.now) (kept_in c.args.mesh.now) c.args.at.now c.args.line.now (c.is_first.ensures.0 first)
