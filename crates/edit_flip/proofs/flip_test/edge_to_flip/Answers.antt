use Rattle.std.proofs.Common.{◌≡◌, false, min, max, sym, subst, ◌∙◌}
use Rattle.mesh_base.specs.Pairs.{is_edge, is_crowded}
use Rattle.edit_base.specs.Edges.{Edge}
use Rattle.grid_decided.specs.Decided.{meets_exactly}
use Rattle.edit_base.specs.Required.{HasEdge}
use Rattle.edit_split.specs.Split.{split_point}
use Rattle.edit_base.proofs.EdgeThere.{has_edge_of}
use Rattle.edit_flip.proofs.Answered.{found_is_edge, full_is_refused, may_be_tried}
use Rattle.edit_flip.proofs.flip_test.edge_to_flip.Goals as goal

pub returns-then-is_split_over-clause-refused : goal.returns-then-is_split_over-clause-refused
returns-then-is_split_over-clause-refused g c depth =
    let m = g.S.Surface.mesh c.args.mesh.now in
    let e = c.in-Some.e in
    let there = found_is_edge c.edge_beside.result e (is_edge m (min c.args.a c.args.b) (max c.args.a c.args.b)) c.in-Some.is (c.edge_beside.ensures.some c.requires.closed) in
    let edge = subst (HasEdge m) (sym c.in-Some.ensures.edge) (has_edge_of m c.args.a c.args.b there) in
    let uncrowded = subst (λ (s : Edge). is_crowded m s.a s.b ≡ false) c.e.view_is (sym c.is_crowded.ensures ∙ c.if-is_crowded.false) in
    full_is_refused meets_exactly m e c.args.a c.args.b depth c.in-Some.ensures.edge edge.is_edge uncrowded
    (sym c.is_made_already.ensures ∙ c.if-is_made_already.false)
    (sym (c.is_split_over.ensures.over e (split_point m e) c.requires.closed edge) ∙ c.if-is_split_over.true)

pub returns-else-is_split_over-clause-tried : goal.returns-else-is_split_over-clause-tried
returns-else-is_split_over-clause-tried g c =
    let m = g.S.Surface.mesh c.args.mesh.now in
    let e = c.in-Some.e in
    let there = found_is_edge c.edge_beside.result e (is_edge m (min c.args.a c.args.b) (max c.args.a c.args.b)) c.in-Some.is (c.edge_beside.ensures.some c.requires.closed) in
    let edge = subst (HasEdge m) (sym c.in-Some.ensures.edge) (has_edge_of m c.args.a c.args.b there) in
    let uncrowded = subst (λ (s : Edge). is_crowded m s.a s.b ≡ false) c.e.view_is (sym c.is_crowded.ensures ∙ c.if-is_crowded.false) in
    may_be_tried m e c.args.a c.args.b c.in-Some.ensures.edge there uncrowded
    (sym c.is_made_already.ensures ∙ c.if-is_made_already.false)
    (sym (c.is_split_over.ensures.over e (split_point m e) c.requires.closed edge) ∙ c.if-is_split_over.false)
