use Rattle.std.proofs.Common.{◌≡◌, ℕ, ◌*◌, ◌≤◌, ◌&&◌, ℤ, ◌-ℤ◌, unsigned_abs, nat_le, min, true, sym, subst, arith}
use Rattle.std.proofs.lemmas.Int.{ints}
use Rattle.std.proofs.lemmas.Bool.{leb-true}
use Rattle.grid_base.specs.declared.TheConstants.{HALF_MAX, EXTENT_MAX}
use Rattle.grid_base.specs.Points.{is_within}
use Rattle.grid_base.specs.Triples.{Triple, IsWithin, minus}
use Rattle.mesh_base.proofs.Tests.{and_first, and_second}
use Rattle.pass_run.proofs.near_edges.box_round.Goals as goal

difference_fits : (a b : ℤ) (most : ℕ) → unsigned_abs a ≤ HALF_MAX → unsigned_abs b ≤ HALF_MAX → unsigned_abs (a -ℤ b) ≤ most → unsigned_abs (a -ℤ b) ≤ min most EXTENT_MAX
difference_fits a b most h i j = omega (arith, ints)

-- what is near is within reach
reached : (p q : Triple) (within : ℕ) → IsWithin HALF_MAX p → IsWithin HALF_MAX q → is_within (2 * within) (minus p q) ≡ true → IsWithin (min (2 * within) EXTENT_MAX) (minus p q)
reached p q within h i near =
    let first = and_first (nat_le (unsigned_abs (p.x -ℤ q.x)) (2 * within) && nat_le (unsigned_abs (p.y -ℤ q.y)) (2 * within)) (nat_le (unsigned_abs (p.z -ℤ q.z)) (2 * within)) near in
    let last = and_second (nat_le (unsigned_abs (p.x -ℤ q.x)) (2 * within) && nat_le (unsigned_abs (p.y -ℤ q.y)) (2 * within)) (nat_le (unsigned_abs (p.z -ℤ q.z)) (2 * within)) near in
    let x = and_first (nat_le (unsigned_abs (p.x -ℤ q.x)) (2 * within)) (nat_le (unsigned_abs (p.y -ℤ q.y)) (2 * within)) first in
    let y = and_second (nat_le (unsigned_abs (p.x -ℤ q.x)) (2 * within)) (nat_le (unsigned_abs (p.y -ℤ q.y)) (2 * within)) first in
    record {
      x_fits = difference_fits p.x q.x (2 * within) h.x_fits i.x_fits (leb-true _ _ x);
      y_fits = difference_fits p.y q.y (2 * within) h.y_fits i.y_fits (leb-true _ _ y);
      z_fits = difference_fits p.z q.z (2 * within) h.z_fits i.z_fits (leb-true _ _ last);
    }

pub returns : goal.returns
returns c = λ q fits near.
    let P : ℕ → Type 0 = λ n. IsWithin n (minus c.args.p q) in
    let close : IsWithin c.reach_of-reach.result (minus c.args.p q) = subst P (sym c.reach_of-reach.ensures) (reached c.args.p q c.args.within c.requires fits near) in
    let low = c.corner_below-low.ensures.ends q fits close in
    let high = c.corner_above-high.ensures.ends q fits close in
    record { x_low = low.x; x_high = high.x; y_low = low.y; y_high = high.y; z_low = low.z; z_high = high.z }
