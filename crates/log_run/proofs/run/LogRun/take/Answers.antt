use Rattle.std.proofs.Common.{◌≡◌, ◌↔◌, false, IsTrue, sym, ap, subst, ◌∙◌}
use Rattle.mesh_journal.specs.Journal.{mesh_in, kept_in}
use Rattle.log_run.specs.States.{LogState}
use Rattle.log_run.specs.Parts.{state_of}
use Rattle.log_run.specs.Fits.{LineFits}
use Rattle.log_run.proofs.run.LogRun.take.Goals as goal

pub returns-then-fits-clause-fits : goal.returns-then-fits-clause-fits
returns-then-fits-clause-fits c =
    let old = c.self.inside in
    let unspent : old.spent ≡ false = ap (λ (s : LogState). s.is_spent) c.self.view_is ∙ c.requires.unspent in
    let state : state_of (mesh_in old.mesh) (kept_in old.mesh) old.at old.taken false ≡ c.args.self.now =
    ap (state_of (mesh_in old.mesh) (kept_in old.mesh) old.at old.taken) (sym unspent) ∙ c.self.view_is in
    subst (λ (s : LogState). IsTrue c.in_ok-fits.fits ↔ LineFits s c.args.line.now) state c.in_ok-fits.ensures.fits
