use Rattle.std.proofs.Common.{◌≡◌, true, false, is_some, sym, ap, subst, ◌∙◌}
use Rattle.mesh_base.specs.Pairs.{is_edge, is_crowded}
use Rattle.edit_base.specs.Edges.{Edge, edge_of}
use Rattle.edit_split.specs.Split.{split_point}
use Rattle.edit_base.specs.Required.{HasEdge}
use Rattle.edit_base.proofs.EdgeThere.{has_edge_of}
use Rattle.edit_split.proofs.Answered.{full_answer}
use Rattle.edit_split.proofs.operation.edge_to_split.Goals as goal

pub returns-then-is_split_over-clause-refused : goal.returns-then-is_split_over-clause-refused
returns-then-is_split_over-clause-refused g c depth =
    let m = g.S.Surface.mesh c.args.mesh.now in
    let s = edge_of m c.args.a c.args.b in
    let edge : is_edge m s.a s.b ≡ true = sym (c.edge_beside.ensures.some c.requires.closed) ∙ ap is_some c.in-Some.is in
    let inside = c.e.view_is ∙ c.in-Some.ensures.edge in
    let crowded : is_crowded m s.a s.b ≡ false = ap (λ (e : Edge). is_crowded m e.a e.b) (sym inside) ∙ sym c.is_crowded.ensures ∙ c.if-is_crowded.false in
    full_answer m c.args.a c.args.b depth edge crowded
    (sym (c.is_split_over.ensures.over s (split_point m s) c.requires.closed (has_edge_of m c.args.a c.args.b edge)) ∙ c.if-is_split_over.true)

pub returns-else-is_split_over-clause-tried : goal.returns-else-is_split_over-clause-tried
returns-else-is_split_over-clause-tried g c =
    let m = g.S.Surface.mesh c.args.mesh.now in
    let s : Edge = c.in-Some.e in
    let some = sym (c.edge_beside.ensures.some c.requires.closed) ∙ ap is_some c.in-Some.is in
    let edge : HasEdge m s = subst (HasEdge m) (sym c.in-Some.ensures.edge) (has_edge_of m c.args.a c.args.b some) in
    record {
      edge = edge;
      one_face_each_way = ap (λ (e : Edge). is_crowded m e.a e.b) (sym c.e.view_is) ∙ sym c.is_crowded.ensures ∙ c.if-is_crowded.false;
      fits = sym (c.is_split_over.ensures.over s (split_point m s) c.requires.closed edge) ∙ c.if-is_split_over.false;
    }
