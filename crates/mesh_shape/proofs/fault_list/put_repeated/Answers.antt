use Rattle.std.proofs.Common.{refl, ap, take, ◌++◌, ◌∙◌}
use Rattle.mesh_base.specs.declared.faults.ShapeFault.TheVariants.{Repeated}
use Rattle.mesh_base.specs.Changes.{corners_of}
use Rattle.mesh_shape.specs.Shape.{repeats}
use Rattle.mesh_shape.specs.ShapeFaults.{one_if, all_repeated_from}
use Rattle.mesh_shape.proofs.Steps.{piece_more, pieces_end}
use Rattle.mesh_shape.proofs.fault_list.put_repeated.Goals as goal

pub loop-i-preserved : goal.loop-i-preserved
loop-i-preserved c =
    piece_more c.args.most (λ k f. one_if (repeats (corners_of f)) (Repeated k)) all_repeated_from (λ k f fs. refl) (λ k. refl) c.args.faces.now c.loop-i.i c.in_ok-face.face _ c.loop-i.faults.items c.put_if.new.faults.items _
    c.loop-i-test.true c.in_ok-face.ensures c.loop-i.invariant (c.in_ok-put_if.ensures ∙ ap (λ b. take c.args.most (c.loop-i.faults.items ++ one_if b (Repeated c.in_ok-face.face))) c.repeats.ensures)

pub returns : goal.returns
returns c = pieces_end c.args.most (λ k f. one_if (repeats (corners_of f)) (Repeated k)) all_repeated_from (λ k f fs. refl) (λ k. refl) c.args.faces.now c.loop-i.i c.loop-i.faults.items _ c.loop-i-test.false c.loop-i.invariant
