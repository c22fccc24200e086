use Rattle.std.proofs.Common.{◌≤ℤ◌, subst, sym}
use Rattle.grid_base.proofs.ExtentReading.{exact}
use Rattle.pass_run.proofs.Reading.{again}
use Rattle.pass_run.proofs.near_edges.corner_above.Goals as goal

pub returns-clause-ends : goal.returns-clause-ends
returns-clause-ends c = λ q fits close. record {
  x = subst (λ z. q.x ≤ℤ z) (sym (exact c.above.result c.above.ensures.size)) (c.above.ensures.ends q.x fits.x_fits (again c.args.p.x q.x c.args.reach c.requires.within.x_fits close.x_fits));
  y = subst (λ z. q.y ≤ℤ z) (sym (exact c.above-2.result c.above-2.ensures.size)) (c.above-2.ensures.ends q.y fits.y_fits (again c.args.p.y q.y c.args.reach c.requires.within.y_fits close.y_fits));
  z = subst (λ z. q.z ≤ℤ z) (sym (exact c.above-3.result c.above-3.ensures.size)) (c.above-3.ensures.ends q.z fits.z_fits (again c.args.p.z q.z c.args.reach c.requires.within.z_fits close.z_fits));
}
