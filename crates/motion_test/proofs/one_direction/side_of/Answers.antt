use Rattle.std.proofs.Common.{rules, ◌≡◌, refl, sym, subst, ◌∙◌, to_z, of_z}
use Rattle.std.specs.Int.{w128}
use Rattle.std.proofs.lemmas.Bool.{false≢true}
use Rattle.grid_base.specs.Triples.{dot}
use Rattle.motion_test.specs.Heights.{LieOn, heights_along}
use Rattle.motion_test.proofs.Sides.{none≢some, some_same, some_of, one_side}
use Rattle.motion_test.proofs.one_direction.side_of.Goals as goal

pub returns-in_err-side : goal.returns-in_err-side
returns-in_err-side c =
    let n = c.args.n in
    let f = c.args.f.now in
    let a_is : to_z w128 (of_z w128 c.height-a.result) ≡ dot n f.a = search rules in
    let b_is : to_z w128 (of_z w128 c.height-b.result) ≡ dot n f.b = search rules in
    let c_is : to_z w128 (of_z w128 c.height-c.result) ≡ dot n f.c = search rules in
    let sides = simp (a_is, b_is, c_is) at c.side_by.ensures in
    λ side. (λ e. absurd (none≢some side (sym c.from_residual.ensures ∙ e)), λ on. absurd (none≢some side (sym c.in_err-side.was ∙ (sides side).1 on.of_c)))

pub returns-then-rest_on : goal.returns-then-rest_on
returns-then-rest_on c =
    let n = c.args.n in
    let f = c.args.f.now in
    let a_is : to_z w128 (of_z w128 c.height-a.result) ≡ dot n f.a = search rules in
    let b_is : to_z w128 (of_z w128 c.height-b.result) ≡ dot n f.b = search rules in
    let c_is : to_z w128 (of_z w128 c.height-c.result) ≡ dot n f.c = search rules in
    let here = c.in_ok-side.side in
    let on_c = ((simp (a_is, b_is, c_is) at c.side_by.ensures) here).0 c.in_ok-side.was in
    let rest = (simp (a_is, b_is) at c.if-rest_on.ensures).0 refl in
    let on_here : LieOn here (heights_along n f) = record { of_c = on_c; of_d = rest.0; of_e = rest.1 } in
    λ side. (
      λ e. subst (λ s. LieOn s (heights_along n f)) (some_same here side e) on_here,
      λ on. some_of here side (one_side here side _ _ _ on_c on.of_c),
    )

pub returns-else-rest_on : goal.returns-else-rest_on
returns-else-rest_on c =
    let n = c.args.n in
    let f = c.args.f.now in
    let a_is : to_z w128 (of_z w128 c.height-a.result) ≡ dot n f.a = search rules in
    let b_is : to_z w128 (of_z w128 c.height-b.result) ≡ dot n f.b = search rules in
    let c_is : to_z w128 (of_z w128 c.height-c.result) ≡ dot n f.c = search rules in
    let here = c.in_ok-side.side in
    let on_c = ((simp (a_is, b_is, c_is) at c.side_by.ensures) here).0 c.in_ok-side.was in
    let rest = simp (a_is, b_is) at c.if-rest_on.ensures in
    λ side. (
      λ e. absurd (none≢some side e),
      λ on.
          let same = one_side side here _ _ _ on.of_c on_c in
          let on_here = subst (λ s. LieOn s (heights_along n f)) same on in
          absurd (false≢true (rest.1 (on_here.of_d, on_here.of_e))),
    )
