use Rattle.std.proofs.Common.{ap, sym, ◌∙◌}
use Rattle.track_input.specs.Fetched.{source_of}
use Rattle.track_input.specs.Named.{mesh_name}
use Rattle.track_input.specs.Source.{Bytes}
use Rattle.track_check.proofs.Sources.{finds_absent, finds_long, finds_read}
use Rattle.track_check.proofs.file_lists.find.Goals as goal

pub returns-in-Absent-clause-finds : goal.returns-in-Absent-clause-finds
returns-in-Absent-clause-finds g c = finds_absent c.args.scale _ (mesh_name c.args.mesh) c.args.decimals c.in_ok-bytes.field-0 c.in-Absent.is c.in_ok-bytes.ensures.source

pub returns-in-TooLong-clause-finds : goal.returns-in-TooLong-clause-finds
returns-in-TooLong-clause-finds g c = finds_long c.args.scale _ (mesh_name c.args.mesh) c.args.decimals c.in_ok-bytes.field-0 c.in-TooLong.seen c.in-TooLong.is c.in_ok-bytes.ensures.source

pub returns-clause-finds : goal.returns-clause-finds
returns-clause-finds g c =
    finds_read c.args.scale _ (mesh_name c.args.mesh) c.args.decimals c.in_ok-bytes.field-0 c.deref.result.now (ap source_of c.in-Bytes.is ∙ ap Bytes (sym c.deref.ensures.value)) c.in_ok-bytes.ensures.source c.in_ok-read_all.field-0 c.in_ok-read_all.ensures
