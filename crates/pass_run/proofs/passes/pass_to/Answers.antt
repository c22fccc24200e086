use Rattle.std.proofs.Common.{refl}
use Rattle.std.proofs.lemmas.Result.{err_from_is_err_and}
use Rattle.log_text.specs.declared.LogLine.TheVariants.{Pass}
use Rattle.log_replay.specs.Replay.{at_mesh}
use Rattle.outside_io.proofs.Outsides.{nothing_stopped}
use Rattle.pass_run.specs.Candidates.{candidates}
use Rattle.pass_run.specs.PassLines.{exactly, lines_from}
use Rattle.pass_run.specs.Results.{stage}
use Rattle.pass_run.proofs.Keeping.{pass_keeps}
use Rattle.pass_run.proofs.Asking.{lines_make}
use Rattle.pass_run.proofs.Stages.{first_in_part, first_said, still_kept, leads_to}
use Rattle.pass_run.proofs.passes.pass_to.Goals as goal

pub returns-in_err-tell-clause-takes : goal.returns-in_err-tell-clause-takes
returns-in_err-tell-clause-takes g c =
    let p = err_from_is_err_and c.from_residual.result c.from_residual.ensures.1 in
    let m = g.S.Surface.mesh c.args.mesh.now in
    let said = c.in_err-tell.ensures in
    rw (p.1, p.2) (first_in_part (Pass c.args.terms.kind) (lines_from (exactly c.args.terms) m (candidates m c.args.terms.kind)) _ _ _ refl said.part
    (still_kept _ _ _ refl refl c.requires.closed c.requires.clear (nothing_stopped _ _ _ said.says.nothing_stored)))

pub returns-clause-takes : goal.returns-clause-takes
returns-clause-takes g c =
    let m = g.S.Surface.mesh c.args.mesh.now in
    let stood = stage g.S.Surface.mesh g.S.Surface.kept g.O.Outside.around c.args.mesh.now c.tell.new.self in
    let said = c.in_ok-tell.ensures.says in
    first_said (Pass c.args.terms.kind) (lines_from (exactly c.args.terms) m (candidates m c.args.terms.kind)) _ stood _ _ c.take_all.result refl refl refl said.written
    (still_kept _ stood _ refl refl c.requires.closed c.requires.clear said.nothing_stored) c.take_all.ensures

pub returns-in_err-tell-clause-motions : goal.returns-in_err-tell-clause-motions
returns-in_err-tell-clause-motions g c = pass_keeps c.args.terms (g.S.Surface.mesh c.args.mesh.now) (g.met.S.Surface.sound c.args.mesh.now) c.requires.closed c.requires.clear

pub returns-clause-motions : goal.returns-clause-motions
returns-clause-motions g c = pass_keeps c.args.terms (g.S.Surface.mesh c.args.mesh.now) (g.met.S.Surface.sound c.args.mesh.now) c.requires.closed c.requires.clear

pub returns-clause-mesh : goal.returns-clause-mesh
returns-clause-mesh g c =
    let m = g.S.Surface.mesh c.args.mesh.now in
    leads_to _ _ _ _ c.take_all.result (lines_make (exactly c.args.terms) (at_mesh m) (candidates m c.args.terms.kind)) c.take_all.ensures
