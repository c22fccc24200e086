use Rattle.std.proofs.Common.{◌≡◌, ◌≤◌, ◌*◌, drop, unsigned_abs}
use Rattle.std.specs.List.{fold}
use Rattle.grid_base.specs.declared.TheConstants.{BOX}
use Rattle.edit_pinch.specs.Rims.{with_way, ways}
use Rattle.edit_pinch.proofs.copy_points.ways.Given as goal

-- with the ways to the vertices that are left, they are all; and so far they are no longer than so many ways
abbrev pub invariant-loop-u : goal.invariant-loop-u
invariant-loop-u g l =
    let m = g.S.Surface.mesh l.mesh in
    (fold (with_way m l.fn.v) l.sum (drop l.u-index l.us) ≡ ways m l.fn.v l.us)
    × (unsigned_abs l.sum.x ≤ l.u-index * (2 * BOX))
    × (unsigned_abs l.sum.y ≤ l.u-index * (2 * BOX))
    × (unsigned_abs l.sum.z ≤ l.u-index * (2 * BOX))
