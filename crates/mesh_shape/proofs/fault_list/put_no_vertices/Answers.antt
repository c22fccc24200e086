use Rattle.std.proofs.Common.{refl}
use Rattle.mesh_base.specs.Changes.{corners_of}
use Rattle.mesh_shape.specs.ShapeFaults.{no_vertices_in, no_vertices_from}
use Rattle.mesh_shape.proofs.Steps.{piece_more, pieces_end}
use Rattle.mesh_shape.proofs.fault_list.put_no_vertices.Goals as goal

pub loop-i-preserved : goal.loop-i-preserved
loop-i-preserved c =
    piece_more c.args.most (λ k f. no_vertices_in c.args.n k (corners_of f)) (no_vertices_from c.args.n) (λ k f fs. refl) (λ k. refl) c.args.faces.now c.loop-i.i c.in_ok-face_number.field-0 _ c.loop-i.faults.items c.put_no_vertices_in.new.faults.items _
    c.loop-i-test.true c.in_ok-face_number.ensures c.loop-i.invariant c.in_ok-put_no_vertices_in.ensures

pub returns : goal.returns
returns c = pieces_end c.args.most (λ k f. no_vertices_in c.args.n k (corners_of f)) (no_vertices_from c.args.n) (λ k f fs. refl) (λ k. refl) c.args.faces.now c.loop-i.i c.loop-i.faults.items _ c.loop-i-test.false c.loop-i.invariant
