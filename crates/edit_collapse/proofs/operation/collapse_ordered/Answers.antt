use Rattle.std.proofs.Common.{◌≡◌, true, refl, sym, ◌∙◌}
use Rattle.grid_decided.specs.Decided.{meets_exactly}
use Rattle.mesh_base.specs.Pairs.{is_edge}
use Rattle.mesh_base.proofs.MarksHold.{begins_itself}
use Rattle.edit_collapse.proofs.Answered.{are_apart, no_edge_is_refused, solid_is_refused}
use Rattle.edit_collapse.proofs.operation.collapse_ordered.Goals as goal

pub collapse_movable-requires-clause-apart : goal.collapse_movable-requires-clause-apart
collapse_movable-requires-clause-apart g c =
    let m = g.S.Surface.mesh c.args.mesh.now in
    let edge : is_edge m c.args.a c.args.b ≡ true = sym c.is_edge.ensures ∙ c.if-not-is_edge.false in
    are_apart m c.args.a c.args.b (g.met.S.Surface.sound c.args.mesh.now) c.requires.closed c.requires.ordered edge

pub collapse_movable-requires-clause-edge : goal.collapse_movable-requires-clause-edge
collapse_movable-requires-clause-edge g c = sym c.is_edge.ensures ∙ c.if-not-is_edge.false

pub collapse_movable-requires-clause-may_move : goal.collapse_movable-requires-clause-may_move
collapse_movable-requires-clause-may_move g c = sym c.are_both_solid.ensures ∙ c.if-are_both_solid.false

pub returns-then-not-is_edge-clause-answer : goal.returns-then-not-is_edge-clause-answer
returns-then-not-is_edge-clause-answer g c =
    no_edge_is_refused meets_exactly (g.S.Surface.mesh c.args.mesh.now) c.args.a c.args.b c.args.depth (sym c.is_edge.ensures ∙ c.if-not-is_edge.true)

pub returns-then-not-is_edge-clause-mesh : goal.returns-then-not-is_edge-clause-mesh
returns-then-not-is_edge-clause-mesh g c = refl

pub returns-then-not-is_edge-clause-marks : goal.returns-then-not-is_edge-clause-marks
returns-then-not-is_edge-clause-marks g c = begins_itself (g.S.Surface.kept c.args.mesh.now)

pub returns-then-are_both_solid-clause-answer : goal.returns-then-are_both_solid-clause-answer
returns-then-are_both_solid-clause-answer g c =
    let m = g.S.Surface.mesh c.args.mesh.now in
    let edge : is_edge m c.args.a c.args.b ≡ true = sym c.is_edge.ensures ∙ c.if-not-is_edge.false in
    solid_is_refused meets_exactly m c.args.a c.args.b c.args.depth edge (sym c.are_both_solid.ensures ∙ c.if-are_both_solid.true)

pub returns-then-are_both_solid-clause-mesh : goal.returns-then-are_both_solid-clause-mesh
returns-then-are_both_solid-clause-mesh g c = refl

pub returns-then-are_both_solid-clause-marks : goal.returns-then-are_both_solid-clause-marks
returns-then-are_both_solid-clause-marks g c = begins_itself (g.S.Surface.kept c.args.mesh.now)
