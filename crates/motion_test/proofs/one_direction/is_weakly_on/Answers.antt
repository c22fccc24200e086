use Rattle.std.proofs.Common.{rules, ◌≡◌, refl, to_z, of_z}
use Rattle.std.specs.Int.{w128}
use Rattle.std.proofs.lemmas.Bool.{false≢true}
use Rattle.grid_base.specs.Triples.{dot}
use Rattle.motion_test.proofs.one_direction.is_weakly_on.Goals as goal

pub returns-then-not-both_weakly_on : goal.returns-then-not-both_weakly_on
returns-then-not-both_weakly_on c =
    let n = c.args.n in
    let f = c.args.f.now in
    let a_is : to_z w128 (of_z w128 c.height-a.result) ≡ dot n f.a = search rules in
    let b_is : to_z w128 (of_z w128 c.height-b.result) ≡ dot n f.b = search rules in
    let c_is : to_z w128 (of_z w128 c.height-c.result) ≡ dot n f.c = search rules in
    let test = simp (a_is, b_is, c_is) at c.if-not-both_weakly_on.ensures in
    (λ no. absurd (false≢true no), λ on. test.1 on.of_c)

pub returns-then-not-both_weakly_on-2 : goal.returns-then-not-both_weakly_on-2
returns-then-not-both_weakly_on-2 c =
    let n = c.args.n in
    let f = c.args.f.now in
    let a_is : to_z w128 (of_z w128 c.height-a.result) ≡ dot n f.a = search rules in
    let b_is : to_z w128 (of_z w128 c.height-b.result) ≡ dot n f.b = search rules in
    let d_is : to_z w128 (of_z w128 c.height-d.result) ≡ dot n f.d = search rules in
    let test = simp (a_is, b_is, d_is) at c.if-not-both_weakly_on-2.ensures in
    (λ no. absurd (false≢true no), λ on. test.1 on.of_d)

pub returns : goal.returns
returns c =
    let n = c.args.n in
    let f = c.args.f.now in
    let a_is : to_z w128 (of_z w128 c.height-a.result) ≡ dot n f.a = search rules in
    let b_is : to_z w128 (of_z w128 c.height-b.result) ≡ dot n f.b = search rules in
    let c_is : to_z w128 (of_z w128 c.height-c.result) ≡ dot n f.c = search rules in
    let d_is : to_z w128 (of_z w128 c.height-d.result) ≡ dot n f.d = search rules in
    let e_is : to_z w128 (of_z w128 c.height-e.result) ≡ dot n f.e = search rules in
    let first = (simp (a_is, b_is, c_is) at c.if-not-both_weakly_on.ensures).0 refl in
    let second = (simp (a_is, b_is, d_is) at c.if-not-both_weakly_on-2.ensures).0 refl in
    let third = simp (a_is, b_is, e_is) at c.both_weakly_on-3.ensures in
    (λ yes. record { of_c = first; of_d = second; of_e = third.0 yes }, λ on. third.1 on.of_e)
