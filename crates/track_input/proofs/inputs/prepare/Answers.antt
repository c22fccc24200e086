use Rattle.std.proofs.Common.{ap, sym, ◌∙◌, subst}
use Rattle.outside_io.specs.World.{Contents}
use Rattle.track_input.specs.Fetched.{source_of}
use Rattle.track_input.specs.Source.{IsSource, Bytes}
use Rattle.track_input.proofs.PrepareLemmas.{prepares_absent, prepares_long, prepares_absent_steps, prepares_long_steps, prepares_read}
use Rattle.track_input.proofs.inputs.prepare.Goals as goal

pub returns-in-Absent-clause-prepares : goal.returns-in-Absent-clause-prepares
returns-in-Absent-clause-prepares g c = prepares_absent c.args.scale _ c.args.mesh_name.now c.args.step_name.now c.args.decimals c.in_ok-bytes.field-0 c.in-Absent.is c.in_ok-bytes.ensures.source

pub returns-in-TooLong-clause-prepares : goal.returns-in-TooLong-clause-prepares
returns-in-TooLong-clause-prepares g c = prepares_long c.args.scale _ c.args.mesh_name.now c.args.step_name.now c.args.decimals c.in_ok-bytes.field-0 c.in-TooLong.seen c.in-TooLong.is c.in_ok-bytes.ensures.source

pub returns-in-Absent-2-clause-prepares : goal.returns-in-Absent-2-clause-prepares
returns-in-Absent-2-clause-prepares g c =
    let P : Contents → Type 0 = λ holds. IsSource c.args.scale holds.files c.args.step_name.now (source_of c.in_ok-bytes-2.field-0) in
    prepares_absent_steps c.args.scale _ c.args.mesh_name.now c.args.step_name.now c.args.decimals c.in_ok-bytes.field-0 c.in_ok-bytes-2.field-0 c.in-Bytes.bytes.items (ap source_of c.in-Bytes.is) c.in_ok-bytes.ensures.source (subst P c.in_ok-bytes.ensures.looks.kept c.in_ok-bytes-2.ensures.source) c.in-Absent-2.is

pub returns-in-TooLong-2-clause-prepares : goal.returns-in-TooLong-2-clause-prepares
returns-in-TooLong-2-clause-prepares g c =
    let P : Contents → Type 0 = λ holds. IsSource c.args.scale holds.files c.args.step_name.now (source_of c.in_ok-bytes-2.field-0) in
    prepares_long_steps c.args.scale _ c.args.mesh_name.now c.args.step_name.now c.args.decimals c.in_ok-bytes.field-0 c.in_ok-bytes-2.field-0 c.in-Bytes.bytes.items (ap source_of c.in-Bytes.is) c.in_ok-bytes.ensures.source (subst P c.in_ok-bytes.ensures.looks.kept c.in_ok-bytes-2.ensures.source) c.in-TooLong-2.seen c.in-TooLong-2.is

pub returns-clause-prepares : goal.returns-clause-prepares
returns-clause-prepares g c =
    let P : Contents → Type 0 = λ holds. IsSource c.args.scale holds.files c.args.step_name.now (source_of c.in_ok-bytes-2.field-0) in
    prepares_read c.args.scale _ c.args.mesh_name.now c.args.step_name.now c.args.decimals c.in_ok-bytes.field-0 c.in_ok-bytes-2.field-0 c.deref.result.now
    (ap source_of c.in-Bytes.is ∙ ap Bytes (sym c.deref.ensures.value)) c.in_ok-bytes.ensures.source (subst P c.in_ok-bytes.ensures.looks.kept c.in_ok-bytes-2.ensures.source)
    c.deref-2.result.now (ap source_of c.in-Bytes-2.is ∙ ap Bytes (sym c.deref-2.ensures.value)) c.in_ok-read_all.field-0 c.in_ok-read_all.ensures
