use Rattle.std.proofs.Common.{◌≡◌, ℕ, length, take, ap, ◌∙◌}
use Rattle.mesh_base.specs.declared.limits.Scale.{Scale}
use Rattle.mesh_base.specs.Given.{Faces}
use Rattle.mesh_shape.specs.ShapeFaults.{shape_faults}
use Rattle.mesh_shape.proofs.Heads.{first_is_shape_fault, none_repeated, kinds_joined}
use Rattle.mesh_shape.proofs.all_faults.shape_faults.Goals as goal

pub put_by_sides-requires : goal.put_by_sides-requires
put_by_sides-requires c = λ some none. none_repeated c.args.most c.put_no_vertices.new.faults.items c.put_repeated.new.faults.items c.as_slice-faces.result.now some none c.in_ok-put_repeated.ensures

pub returns-clause-found : goal.returns-clause-found
returns-clause-found c =
    let scale : Scale = c.args.scale in
    let most : ℕ = c.args.most in
    let n : ℕ = c.len-n.result in
    let fs : Faces = c.as_slice-faces.result.now in
    let all : take most c.put_by_sides.new.faults.items ≡ take most (shape_faults scale n fs) = kinds_joined scale n fs most c.new-faults.result.items c.put_limits.new.faults.items c.put_no_vertices.new.faults.items c.put_repeated.new.faults.items c.put_by_sides.new.faults.items
    c.new-faults.ensures.items c.in_ok-put_limits.ensures c.in_ok-put_no_vertices.ensures c.in_ok-put_repeated.ensures c.in_ok-put_by_sides.ensures in
    c.truncate.ensures.items ∙ all ∙ ap (λ k. take most (shape_faults scale k fs)) c.len-n.ensures ∙ ap (λ l. take most (shape_faults scale (length c.args.lists.now.points) l)) c.as_slice-faces.ensures

pub returns-in_err-put_limits-clause-first : goal.returns-in_err-put_limits-clause-first
returns-in_err-put_limits-clause-first c = first_is_shape_fault c.args.scale (length c.args.lists.now.points) c.args.lists.now.faces

pub returns-in_err-put_no_vertices-clause-first : goal.returns-in_err-put_no_vertices-clause-first
returns-in_err-put_no_vertices-clause-first c = first_is_shape_fault c.args.scale (length c.args.lists.now.points) c.args.lists.now.faces

pub returns-in_err-put_repeated-clause-first : goal.returns-in_err-put_repeated-clause-first
returns-in_err-put_repeated-clause-first c = first_is_shape_fault c.args.scale (length c.args.lists.now.points) c.args.lists.now.faces

pub returns-in_err-put_by_sides-clause-first : goal.returns-in_err-put_by_sides-clause-first
returns-in_err-put_by_sides-clause-first c = first_is_shape_fault c.args.scale (length c.args.lists.now.points) c.args.lists.now.faces

pub returns-clause-first : goal.returns-clause-first
returns-clause-first c = first_is_shape_fault c.args.scale (length c.args.lists.now.points) c.args.lists.now.faces
