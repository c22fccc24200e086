use Rattle.std.proofs.Common.{◌≤ℤ◌, pos, to_z, of_z, sym, subst, ◌∙◌, arith}
use Rattle.std.proofs.lemmas.Int.{ints}
use Rattle.std.specs.Int.{w128}
use Rattle.grid_base.specs.Triples.{minus}
use Rattle.mesh_base.specs.Placements.{rest_positions}
use Rattle.mesh_sizing.specs.Sizes.{MayAnswer}
use Rattle.mesh_sizing.specs.declared.sizing.Want.TheVariants.{Split, Collapse, Leave}
use Rattle.pass_run.proofs.Squares.{square_not_negative}
use Rattle.pass_run.proofs.Fitted.{calls_it, called_where, nothing_called, middle_is}
use Rattle.pass_run.proofs.sizing_pass.edit_called_for.Goals as goal

pub want-requires-clause-square : goal.want-requires-clause-square
want-requires-clause-square g c =
    let m = g.S.Surface.mesh c.args.mesh.now in
    let good : pos 0 ≤ℤ c.length_squared.result = subst (λ n. pos 0 ≤ℤ n) (sym c.length_squared.ensures) (square_not_negative (minus (rest_positions m c.args.a) (rest_positions m c.args.b))) in
    omega (arith, ints, good)

pub returns-in-Split : goal.returns-in-Split
returns-in-Split g c =
    let m = g.S.Surface.mesh c.args.mesh.now in
    let stands = sym c.is_edge.ensures ∙ c.if-not-is_edge.false in
    calls_it (MayAnswer g.G.Fn c.args.sizing.now) m c.args.a c.args.b Split c.want.result c.want.ensures.band (to_z w128 (of_z w128 c.length_squared.result)) c.floor_mid-middle.result
    (middle_is m c.args.a c.args.b c.point_of.result c.point_of-2.result c.floor_mid-middle.result c.point_of.ensures c.point_of-2.ensures c.floor_mid-middle.ensures)
    c.want.ensures.answer c.want.ensures.value (omega (arith, ints, c.length_squared.ensures)) c.in-Split.is _ (called_where m c.args.a c.args.b Split stands)

pub returns-in-Collapse : goal.returns-in-Collapse
returns-in-Collapse g c =
    let m = g.S.Surface.mesh c.args.mesh.now in
    let stands = sym c.is_edge.ensures ∙ c.if-not-is_edge.false in
    calls_it (MayAnswer g.G.Fn c.args.sizing.now) m c.args.a c.args.b Collapse c.want.result c.want.ensures.band (to_z w128 (of_z w128 c.length_squared.result)) c.floor_mid-middle.result
    (middle_is m c.args.a c.args.b c.point_of.result c.point_of-2.result c.floor_mid-middle.result c.point_of.ensures c.point_of-2.ensures c.floor_mid-middle.ensures)
    c.want.ensures.answer c.want.ensures.value (omega (arith, ints, c.length_squared.ensures)) c.in-Collapse.is _ (called_where m c.args.a c.args.b Collapse stands)

pub returns-in-Leave : goal.returns-in-Leave
returns-in-Leave g c =
    let m = g.S.Surface.mesh c.args.mesh.now in
    let stands = sym c.is_edge.ensures ∙ c.if-not-is_edge.false in
    calls_it (MayAnswer g.G.Fn c.args.sizing.now) m c.args.a c.args.b Leave c.want.result c.want.ensures.band (to_z w128 (of_z w128 c.length_squared.result)) c.floor_mid-middle.result
    (middle_is m c.args.a c.args.b c.point_of.result c.point_of-2.result c.floor_mid-middle.result c.point_of.ensures c.point_of-2.ensures c.floor_mid-middle.ensures)
    c.want.ensures.answer c.want.ensures.value (omega (arith, ints, c.length_squared.ensures)) c.in-Leave.is _ (called_where m c.args.a c.args.b Leave stands)

pub returns-then-not-is_edge : goal.returns-then-not-is_edge
returns-then-not-is_edge g c = nothing_called (MayAnswer g.G.Fn c.args.sizing.now) (g.S.Surface.mesh c.args.mesh.now) c.args.a c.args.b (sym c.is_edge.ensures ∙ c.if-not-is_edge.true)
