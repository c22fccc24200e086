use Rattle.std.proofs.Common.{ℕ, Result, Err, ap, sym, subst, ◌∙◌}
use Rattle.mesh_base.specs.Shifts.{Shifts}
use Rattle.mesh_base.specs.declared.UseWhy.TheVariants.{ShiftRange}
use Rattle.track_engine.specs.Shifting.{Sums}
use Rattle.track_engine.proofs.AskedSums.{sums_rise, asks_sums, asks_range}
use Rattle.track_engine.proofs.engine.Engine.add_to_all.Goals as goal

pub of_all-requires : goal.of_all-requires
of_all-requires g c =
    let m = g.S.Surface.mesh c.args.self.now.mesh in
    let P : Result Shifts ℕ → Type 0 = λ r. Sums m (λ v. c.args.by) c.as_slice.result.now r in
    sums_rise m (λ v. c.args.by) c.args.self.now.run.asked c.as_slice.result.now (c.as_slice.ensures ∙ c.in_ok-asked.ensures) c.in-Ok.sums (subst P c.in-Ok.is c.in_ok-v.ensures)

pub returns-clause-asks : goal.returns-clause-asks
returns-clause-asks g c =
    let m = g.S.Surface.mesh c.args.self.now.mesh in
    let P : Result Shifts ℕ → Type 0 = λ r. Sums m (λ v. c.args.by) c.as_slice.result.now r in
    asks_sums m (λ v. c.args.by) c.args.self.now.run.asked c.as_slice.result.now (c.as_slice.ensures ∙ c.in_ok-asked.ensures) c.in-Ok.sums (subst P c.in-Ok.is c.in_ok-v.ensures) c.of_all.result c.of_all.ensures

pub returns-in-Err-clause-asks : goal.returns-in-Err-clause-asks
returns-in-Err-clause-asks g c =
    let m = g.S.Surface.mesh c.args.self.now.mesh in
    let P : Result Shifts ℕ → Type 0 = λ r. Sums m (λ v. c.args.by) c.as_slice.result.now r in
    asks_range m (λ v. c.args.by) c.args.self.now.run.asked c.as_slice.result.now (c.as_slice.ensures ∙ c.in_ok-asked.ensures) c.in-Err.v (subst P c.in-Err.is c.in_ok-v.ensures)
    ∙ ap (λ v. Err (ShiftRange v)) (sym c.v.view_is)
