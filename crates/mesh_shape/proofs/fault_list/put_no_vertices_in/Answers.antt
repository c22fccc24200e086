use Rattle.std.proofs.Common.{not, ◌∙◌, ap, ◌++◌, take}
use Rattle.std.proofs.lemmas.Result.{on_ok_weaker}
use Rattle.mesh_base.specs.declared.faults.ShapeFault.TheVariants.{NoVertex}
use Rattle.mesh_shape.specs.ShapeFaults.{one_if}
use Rattle.mesh_shape.proofs.Prefixes.{after_two}
use Rattle.mesh_shape.proofs.fault_list.put_no_vertices_in.Goals as goal

pub returns : goal.returns
returns c =
    let most = c.args.most in
    let face = c.args.face in
    let old = c.args.faults.now.items in
    let one = c.put_if.new.faults.items in
    let two = c.put_if-2.new.faults.items in
    let three = c.put_if-3.new.faults.items in
    on_ok_weaker c.put_if-3.result
    (λ third. after_two most old two three _ _
    (after_two most old one two _ _
    (c.in_ok-put_if.ensures ∙ ap (λ b. take most (old ++ one_if (not b) (NoVertex face 1))) c.is_vertex.ensures)
    (c.in_ok-put_if-2.ensures ∙ ap (λ b. take most (one ++ one_if (not b) (NoVertex face 2))) c.is_vertex-2.ensures))
    (third ∙ ap (λ b. take most (two ++ one_if (not b) (NoVertex face 3))) c.is_vertex-3.ensures))
    c.put_if-3.ensures
