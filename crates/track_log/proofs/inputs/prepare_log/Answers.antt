use Rattle.std.specs.Prelude.{refl}
use Rattle.track_input.specs.Named.{log_names}
use Rattle.track_log.proofs.PrepareLemmas.{prepares_refused, prepares_read}
use Rattle.track_log.proofs.inputs.prepare_log.Goals as goal

pub returns-in-No-clause-prepares : goal.returns-in-No-clause-prepares
returns-in-No-clause-prepares g c = prepares_refused _ (log_names c.args.files) c.in_ok-why.field-0 c.in-No.why c.in-No.is c.in_ok-why.ensures.fetches

pub returns-in_ok-read_and_test-in-Yes-clause-prepares : goal.returns-in_ok-read_and_test-in-Yes-clause-prepares
returns-in_ok-read_and_test-in-Yes-clause-prepares g c =
    prepares_read _ (log_names c.args.files) c.in_ok-why.field-0 c.in-Yes.mesh c.in-Yes.log c.in-Yes.is c.in_ok-why.ensures.fetches
    c.in-Yes.mesh.items refl c.in_ok-read_and_test-in-Yes.field-0 c.in_ok-read_and_test-in-Yes.ensures
