use Rattle.std.proofs.Common.{[], List, Err, refl, is_ok, subst, ◌∙◌}
use Rattle.std.proofs.lemmas.Result.{err_from_is_err_and}
use Rattle.edit_base.specs.declared.Asked.{Asked}
use Rattle.mesh_sizing.specs.Sizes.{MayAnswer}
use Rattle.log_text.specs.declared.LogLine.TheVariants.{PassFit}
use Rattle.outside_io.specs.declared.stop.Stop.TheVariants.{NoMemory}
use Rattle.outside_io.proofs.Outsides.{nothing_stopped}
use Rattle.pass_run.specs.Fits.{MayCall}
use Rattle.pass_run.specs.Results.{stage, exact_answer}
use Rattle.pass_run.specs.Turns.{AreChosen}
use Rattle.pass_run.proofs.Stages.{first_in_part, first_said, nothing_yet, still_kept, keeps_then}
use Rattle.pass_run.proofs.Fitted.{edges_turned, fits_said, fits_begun}
use Rattle.pass_run.proofs.sizing_pass.fit_to.Goals as goal

pub returns-in_err-tell-clause-fits : goal.returns-in_err-tell-clause-fits
returns-in_err-tell-clause-fits g c =
    let p = err_from_is_err_and c.from_residual.result c.from_residual.ensures.1 in
    let said = c.in_err-tell.ensures in
    let from = stage g.S.Surface.mesh g.S.Surface.kept g.O.Outside.around c.args.mesh.now c.args.outside.now in
    let stood = stage g.S.Surface.mesh g.S.Surface.kept g.O.Outside.around c.args.mesh.now c.tell.new.self in
    rw (p.1, p.2) (fits_begun (MayAnswer g.G.Fn c.args.turns.by.now) c.args.turns.depth c.args.turns.grouped from stood (g.met.S.Surface.sound c.args.mesh.now) c.requires.closed c.requires.clear c.in_err-tell.field-0.0
    (first_in_part PassFit [] from stood c.in_err-tell.field-0.0 refl said.part (still_kept from stood _ refl refl c.requires.closed c.requires.clear (nothing_stopped _ _ _ said.says.nothing_stored))))

pub returns-in_err-tell-clause-keeps : goal.returns-in_err-tell-clause-keeps
returns-in_err-tell-clause-keeps g c =
    let p = err_from_is_err_and c.from_residual.result c.from_residual.ensures.1 in
    rw (p.1, p.2) (still_kept _ _ _ refl refl c.requires.closed c.requires.clear (nothing_stopped _ _ _ c.in_err-tell.ensures.says.nothing_stored))

pub returns-in_err-edges-clause-fits : goal.returns-in_err-edges-clause-fits
returns-in_err-edges-clause-fits g c =
    let p = err_from_is_err_and c.from_residual-in_err-edges.result c.from_residual-in_err-edges.ensures.1 in
    let said = c.in_ok-tell.ensures.says in
    let from = stage g.S.Surface.mesh g.S.Surface.kept g.O.Outside.around c.args.mesh.now c.args.outside.now in
    let stood = stage g.S.Surface.mesh g.S.Surface.kept g.O.Outside.around c.args.mesh.now c.tell.new.self in
    rw (p.1, p.2) (fits_begun (MayAnswer g.G.Fn c.args.turns.by.now) c.args.turns.depth c.args.turns.grouped from stood (g.met.S.Surface.sound c.args.mesh.now) c.requires.closed c.requires.clear NoMemory
    (first_said PassFit [] from stood stood _ (Err NoMemory) refl refl refl said.written (still_kept from stood _ refl refl c.requires.closed c.requires.clear said.nothing_stored) (nothing_yet [] stood c.requires.closed c.requires.clear)))

pub returns-in_err-edges-clause-keeps : goal.returns-in_err-edges-clause-keeps
returns-in_err-edges-clause-keeps g c =
    let p = err_from_is_err_and c.from_residual-in_err-edges.result c.from_residual-in_err-edges.ensures.1 in
    let stood = stage g.S.Surface.mesh g.S.Surface.kept g.O.Outside.around c.args.mesh.now c.tell.new.self in
    rw (p.1, p.2) (keeps_then _ stood stood _ _ (still_kept _ stood _ refl refl c.requires.closed c.requires.clear c.in_ok-tell.ensures.says.nothing_stored) (nothing_yet [] stood c.requires.closed c.requires.clear).keeps)

pub returns-clause-fits : goal.returns-clause-fits
returns-clause-fits g c =
    let from = stage g.S.Surface.mesh g.S.Surface.kept g.O.Outside.around c.args.mesh.now c.args.outside.now in
    let stood = stage g.S.Surface.mesh g.S.Surface.kept g.O.Outside.around c.args.mesh.now c.tell.new.self in
    let said = c.in_ok-tell.ensures.says in
    let may = MayAnswer g.G.Fn c.args.turns.by.now in
    let depth = c.args.turns.depth in
    let grouped = c.args.turns.grouped in
    let t = c.take_turns.ensures.takes in
    let P : List Asked → Type 0 = λ l. AreChosen (MayCall may) (exact_answer depth) grouped (is_ok c.take_turns.result) from.mesh l t.calls in
    let w = edges_turned may depth grouped (is_ok c.take_turns.result) from.mesh t.calls (subst P (c.as_slice.ensures.value ∙ c.in_ok-edges.ensures) t.chosen) in
    fits_said may depth grouped from _ (g.met.S.Surface.sound c.args.mesh.now) c.requires.closed c.requires.clear _ w.0 c.take_turns.result w.1
    (first_said PassFit _ from stood _ _ c.take_turns.result refl refl refl said.written (still_kept from stood _ refl refl c.requires.closed c.requires.clear said.nothing_stored) t.takes)

pub returns-clause-keeps : goal.returns-clause-keeps
returns-clause-keeps g c =
    let stood = stage g.S.Surface.mesh g.S.Surface.kept g.O.Outside.around c.args.mesh.now c.tell.new.self in
    keeps_then _ stood _ _ _ (still_kept _ stood _ refl refl c.requires.closed c.requires.clear c.in_ok-tell.ensures.says.nothing_stored) c.take_turns.ensures.takes.takes.keeps
