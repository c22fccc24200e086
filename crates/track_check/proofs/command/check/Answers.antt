use Rattle.std.proofs.lemmas.Result.{err_from_is_err_and}
use Rattle.track_input.specs.Named.{mesh_name}
use Rattle.track_check.specs.declared.file_lists.FileLists.TheVariants as found
use Rattle.track_check.proofs.Ended.{found_ends, stopped_ends}
use Rattle.track_check.proofs.command.check.Goals as goal

pub returns-in_err-why-clause-headline : goal.returns-in_err-why-clause-headline
returns-in_err-why-clause-headline g c =
    let p = err_from_is_err_and c.from_residual.result c.from_residual.ensures.1 in
    rw (p.1, p.2) (stopped_ends c.args.scale (mesh_name c.args.mesh) c.args.decimals _ _ _ c.in_err-why.ensures.looks)

pub returns-in-No-clause-headline : goal.returns-in-No-clause-headline
returns-in-No-clause-headline g c =
    found_ends c.args.scale (mesh_name c.args.mesh) c.args.decimals _ _ _ c.in_ok-why.ensures.looks c.in_ok-why.field-0 (found.No c.in-No.why) c.in-No.is c.in_ok-why.ensures.finds
    _ c.refuse.result c.refuse.ensures.ends c.refuse.ensures.counts

pub returns-in-Lists-clause-headline : goal.returns-in-Lists-clause-headline
returns-in-Lists-clause-headline g c =
    found_ends c.args.scale (mesh_name c.args.mesh) c.args.decimals _ _ _ c.in_ok-why.ensures.looks c.in_ok-why.field-0 (found.Lists c.in-Lists.lists) c.in-Lists.is c.in_ok-why.ensures.finds
    _ c.tell.result c.tell.ensures.ends c.tell.ensures.counts
