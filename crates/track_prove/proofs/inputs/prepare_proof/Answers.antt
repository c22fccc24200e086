use Rattle.std.proofs.Common.{ap, sym, ◌∙◌, subst, refl, Ok}
use Rattle.outside_io.specs.World.{Contents}
use Rattle.track_input.specs.Fetched.{source_of}
use Rattle.track_input.specs.Named.{proof_names}
use Rattle.track_input.specs.Source.{IsSource, Bytes}
use Rattle.track_log.specs.Fetching.{fetched_by}
use Rattle.track_prove.proofs.Prepare.{prepares_no_log, prepares_no_proof, prepares_long_proof, prepares_read}
use Rattle.track_prove.proofs.inputs.prepare_proof.Goals as goal

pub returns-in-No-clause-prepares : goal.returns-in-No-clause-prepares
returns-in-No-clause-prepares g c = prepares_no_log (g.O.Outside.around c.args.outside.now).world.holds.files (proof_names c.args.given) c.in_ok-why.field-0 c.in_ok-why.ensures.fetches c.in-No.why c.in-No.is

pub returns-in-Absent-clause-prepares : goal.returns-in-Absent-clause-prepares
returns-in-Absent-clause-prepares g c =
    let P : Contents → Type 0 = λ holds. IsSource c.args.given.files.scale holds.files c.args.given.proof.now (source_of c.in_ok-bytes.field-0) in
    prepares_no_proof (g.O.Outside.around c.args.outside.now).world.holds.files (proof_names c.args.given) c.in_ok-why.field-0 c.in_ok-why.ensures.fetches
    c.in-Yes.mesh.items c.in-Yes.log.items (ap fetched_by c.in-Yes.is) c.in_ok-bytes.field-0 (subst P c.in_ok-why.ensures.looks.kept c.in_ok-bytes.ensures.source) (ap source_of c.in-Absent.is)

pub returns-in-TooLong-clause-prepares : goal.returns-in-TooLong-clause-prepares
returns-in-TooLong-clause-prepares g c =
    let P : Contents → Type 0 = λ holds. IsSource c.args.given.files.scale holds.files c.args.given.proof.now (source_of c.in_ok-bytes.field-0) in
    prepares_long_proof (g.O.Outside.around c.args.outside.now).world.holds.files (proof_names c.args.given) c.in_ok-why.field-0 c.in_ok-why.ensures.fetches
    c.in-Yes.mesh.items c.in-Yes.log.items (ap fetched_by c.in-Yes.is) c.in_ok-bytes.field-0 (subst P c.in_ok-why.ensures.looks.kept c.in_ok-bytes.ensures.source) c.in-TooLong.seen (ap source_of c.in-TooLong.is)

pub returns-clause-prepares : goal.returns-clause-prepares
returns-clause-prepares g c =
    let P : Contents → Type 0 = λ holds. IsSource c.args.given.files.scale holds.files c.args.given.proof.now (source_of c.in_ok-bytes.field-0) in
    prepares_read (g.O.Outside.around c.args.outside.now).world.holds.files (proof_names c.args.given) c.in_ok-why.field-0 c.in_ok-why.ensures.fetches
    c.in-Yes.mesh.items c.in-Yes.log.items (ap fetched_by c.in-Yes.is) c.in_ok-bytes.field-0 (subst P c.in_ok-why.ensures.looks.kept c.in_ok-bytes.ensures.source)
    c.in-Bytes.bytes.items (ap source_of c.in-Bytes.is) c.in-Yes.mesh.items refl c.in_ok-read_all.field-0 c.in_ok-read_all.ensures
