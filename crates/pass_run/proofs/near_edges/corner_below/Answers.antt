use Rattle.std.proofs.Common.{◌≤ℤ◌, subst, sym}
use Rattle.grid_base.proofs.ExtentReading.{exact}
use Rattle.pass_run.proofs.Reading.{again}
use Rattle.pass_run.proofs.near_edges.corner_below.Goals as goal

pub returns-clause-ends : goal.returns-clause-ends
returns-clause-ends c = λ q fits close. record {
  x = subst (λ z. z ≤ℤ q.x) (sym (exact c.below.result c.below.ensures.size)) (c.below.ensures.ends q.x fits.x_fits (again c.args.p.x q.x c.args.reach c.requires.within.x_fits close.x_fits));
  y = subst (λ z. z ≤ℤ q.y) (sym (exact c.below-2.result c.below-2.ensures.size)) (c.below-2.ensures.ends q.y fits.y_fits (again c.args.p.y q.y c.args.reach c.requires.within.y_fits close.y_fits));
  z = subst (λ z. z ≤ℤ q.z) (sym (exact c.below-3.result c.below-3.ensures.size)) (c.below-3.ensures.ends q.z fits.z_fits (again c.args.p.z q.z c.args.reach c.requires.within.z_fits close.z_fits));
}
