use Rattle.std.proofs.Common.{rules, ◌≡◌, refl, to_z, of_z}
use Rattle.std.specs.Int.{w128}
use Rattle.std.proofs.lemmas.Bool.{false≢true}
use Rattle.grid_base.specs.Triples.{dot}
use Rattle.motion_test.proofs.one_direction.is_on.Goals as goal

pub returns-then-not-both_on : goal.returns-then-not-both_on
returns-then-not-both_on c =
    let n = c.args.n in
    let f = c.args.f.now in
    let a_is : to_z w128 (of_z w128 c.height-a.result) ≡ dot n f.a = search rules in
    let b_is : to_z w128 (of_z w128 c.height-b.result) ≡ dot n f.b = search rules in
    let c_is : to_z w128 (of_z w128 c.height-c.result) ≡ dot n f.c = search rules in
    let test = simp (a_is, b_is, c_is) at c.if-not-both_on.ensures in
    (λ no. absurd (false≢true no), λ on. test.1 on.of_c)

pub returns : goal.returns
returns c =
    let n = c.args.n in
    let f = c.args.f.now in
    let a_is : to_z w128 (of_z w128 c.height-a.result) ≡ dot n f.a = search rules in
    let b_is : to_z w128 (of_z w128 c.height-b.result) ≡ dot n f.b = search rules in
    let c_is : to_z w128 (of_z w128 c.height-c.result) ≡ dot n f.c = search rules in
    let first = (simp (a_is, b_is, c_is) at c.if-not-both_on.ensures).0 refl in
    let rest = simp (a_is, b_is) at c.rest_on.ensures in
    (λ yes. let both = rest.0 yes in record { of_c = first; of_d = both.0; of_e = both.1 }, λ on. rest.1 (on.of_d, on.of_e))
