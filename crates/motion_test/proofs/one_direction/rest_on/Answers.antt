use Rattle.std.proofs.Common.{rules, ◌≡◌, refl, SFits, to_z, of_z}
use Rattle.std.specs.Int.{w128}
use Rattle.std.proofs.lemmas.Int.{to_z-of_z}
use Rattle.std.proofs.lemmas.Bool.{false≢true}
use Rattle.grid_base.specs.Triples.{dot}
use Rattle.motion_test.proofs.one_direction.rest_on.Goals as goal

pub returns-then-not-both_on : goal.returns-then-not-both_on
returns-then-not-both_on c =
    let n = c.args.n in
    let f = c.args.f.now in
    let a_fits : SFits w128 c.args.a = c.ranges.a in
    let b_fits : SFits w128 c.args.b = c.ranges.b in
    let d_is : to_z w128 (of_z w128 c.height-d.result) ≡ dot n f.d = search rules in
    let test = simp (to_z-of_z, d_is) at c.if-not-both_on.ensures in
    (λ no. absurd (false≢true no), λ both. test.1 both.0)

pub returns : goal.returns
returns c =
    let n = c.args.n in
    let f = c.args.f.now in
    let a_fits : SFits w128 c.args.a = c.ranges.a in
    let b_fits : SFits w128 c.args.b = c.ranges.b in
    let d_is : to_z w128 (of_z w128 c.height-d.result) ≡ dot n f.d = search rules in
    let e_is : to_z w128 (of_z w128 c.height-e.result) ≡ dot n f.e = search rules in
    let first = (simp (to_z-of_z, d_is) at c.if-not-both_on.ensures).0 refl in
    let second = simp (to_z-of_z, e_is) at c.both_on-2.ensures in
    (λ yes. (first, second.0 yes), λ both. second.1 both.1)
