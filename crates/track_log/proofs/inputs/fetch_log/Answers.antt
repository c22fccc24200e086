use Rattle.std.proofs.Common.{subst}
use Rattle.outside_io.specs.World.{Contents}
use Rattle.track_input.specs.Fetched.{source_of}
use Rattle.track_input.specs.Named.{log_names}
use Rattle.track_input.specs.Source.{IsSource}
use Rattle.track_log.proofs.PrepareLemmas.{fetches_absent, fetches_long, fetches_absent_log, fetches_long_log, fetches_both}
use Rattle.track_log.proofs.inputs.fetch_log.Goals as goal

pub returns-in-Absent-clause-fetches : goal.returns-in-Absent-clause-fetches
returns-in-Absent-clause-fetches g c = fetches_absent _ (log_names c.args.files) c.in_ok-bytes.field-0 c.in-Absent.is c.in_ok-bytes.ensures.source

pub returns-in-TooLong-clause-fetches : goal.returns-in-TooLong-clause-fetches
returns-in-TooLong-clause-fetches g c = fetches_long _ (log_names c.args.files) c.in_ok-bytes.field-0 c.in-TooLong.seen c.in-TooLong.is c.in_ok-bytes.ensures.source

pub returns-in-Absent-2-clause-fetches : goal.returns-in-Absent-2-clause-fetches
returns-in-Absent-2-clause-fetches g c =
    let P : Contents → Type 0 = λ holds. IsSource c.args.files.scale holds.files c.args.files.log.now (source_of c.in_ok-log.field-0) in
    fetches_absent_log _ (log_names c.args.files) c.in_ok-bytes.field-0 c.in_ok-log.field-0 c.in-Bytes.bytes c.in-Bytes.is c.in_ok-bytes.ensures.source (subst P c.in_ok-bytes.ensures.looks.kept c.in_ok-log.ensures.source) c.in-Absent-2.is

pub returns-in-TooLong-2-clause-fetches : goal.returns-in-TooLong-2-clause-fetches
returns-in-TooLong-2-clause-fetches g c =
    let P : Contents → Type 0 = λ holds. IsSource c.args.files.scale holds.files c.args.files.log.now (source_of c.in_ok-log.field-0) in
    fetches_long_log _ (log_names c.args.files) c.in_ok-bytes.field-0 c.in_ok-log.field-0 c.in-Bytes.bytes c.in-Bytes.is c.in_ok-bytes.ensures.source (subst P c.in_ok-bytes.ensures.looks.kept c.in_ok-log.ensures.source) c.in-TooLong-2.seen c.in-TooLong-2.is

pub returns-in-Bytes-2-clause-fetches : goal.returns-in-Bytes-2-clause-fetches
returns-in-Bytes-2-clause-fetches g c =
    let P : Contents → Type 0 = λ holds. IsSource c.args.files.scale holds.files c.args.files.log.now (source_of c.in_ok-log.field-0) in
    fetches_both _ (log_names c.args.files) c.in_ok-bytes.field-0 c.in_ok-log.field-0 c.in-Bytes.bytes c.in-Bytes.is c.in_ok-bytes.ensures.source (subst P c.in_ok-bytes.ensures.looks.kept c.in_ok-log.ensures.source) c.in-Bytes-2.log c.in-Bytes-2.is
