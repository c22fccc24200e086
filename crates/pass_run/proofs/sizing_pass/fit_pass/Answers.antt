use Rattle.std.proofs.Common.{rules}
use Rattle.mesh_sizing.specs.Sizes.{MayAnswer}
use Rattle.pass_run.specs.declared.faults.PassFault.{PassFault}
use Rattle.pass_run.proofs.Fitted.{fits_counted, fits_cut}
use Rattle.pass_run.proofs.sizing_pass.fit_pass.Goals as goal

pub returns-in-Ok-clause-fits : goal.returns-in-Ok-clause-fits
returns-in-Ok-clause-fits g c =
    let fits =
    fits_counted {F = PassFault} (MayAnswer g.G.Fn c.args.sizing.now) c.args.depth c.args.grouped (g.S.Surface.mesh c.args.mesh.now) (g.S.Surface.mesh c.fit_to.new.mesh) (g.K.Sink.written c.args.out.now) (g.K.Sink.written c.fit_to.new.outside.out.now) c.in-Ok.count c.in-Ok.ensures.fits in
    search rules

pub returns-in-Err-clause-fits : goal.returns-in-Err-clause-fits
returns-in-Err-clause-fits g c =
    let fits =
    fits_cut (MayAnswer g.G.Fn c.args.sizing.now) c.args.depth c.args.grouped (g.S.Surface.mesh c.args.mesh.now) (g.S.Surface.mesh c.fit_to.new.mesh) (g.K.Sink.written c.args.out.now) (g.K.Sink.written c.fit_to.new.outside.out.now) c.in-Err.stop c.of.result c.in-Err.ensures.fits in
    search rules
