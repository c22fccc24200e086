use Rattle.std.proofs.lemmas.Result.{err_from_is_err_and}
use Rattle.track_input.specs.Named.{proof_names}
use Rattle.track_prove.proofs.Whole.{verifies_stopped, verifies_told}
use Rattle.track_prove.proofs.verify_command.verify.Goals as goal

pub tell-requires : goal.tell-requires
tell-requires g c = record { some = c.in_ok-report.ensures.verifies.report.some }

pub returns-in_err-report-clause-headline : goal.returns-in_err-report-clause-headline
returns-in_err-report-clause-headline g c =
    let p = err_from_is_err_and c.from_residual.result c.from_residual.ensures.1 in
    rw (p.1, p.2) (verifies_stopped (proof_names c.args.files) (g.O.Outside.around c.args.outside.now) (g.O.Outside.around c.verify_files.new.outside) _ c.in_err-report.ensures.looks)

pub returns-clause-headline : goal.returns-clause-headline
returns-clause-headline g c =
    verifies_told (proof_names c.args.files) (g.O.Outside.around c.args.outside.now) (g.O.Outside.around c.verify_files.new.outside) (g.O.Outside.around c.tell.new.outside) _ c.in_ok-report.report c.in_ok-report.ensures.looks c.in_ok-report.ensures.verifies c.tell.result c.tell.ensures.tells c.tell.ensures.ending
