use Rattle.std.proofs.Common.{◌≡◌, take, ap, [], ◌++◌, sym, ◌∙◌}
use Rattle.mesh_shape.specs.ShapeFaults.{all_doubled_from}
use Rattle.mesh_shape.proofs.Prefixes.{behind_taken, none_put, nil_tested}
use Rattle.mesh_shape.proofs.doubled.put_doubled.Goals as goal

pub returns-then-is_empty : goal.returns-then-is_empty
returns-then-is_empty c =
    let most = c.args.most in
    let old = c.args.faults.now.items in
    let empty : old ≡ [] = nil_tested old c.args.faults.now.len c.args.faults.now.ok.0 (sym c.is_empty.ensures ∙ c.if-is_empty.true) in
    none_put most old ∙ ap (λ l. take most (old ++ l)) (sym (c.requires c.if-once.true empty))

pub returns : goal.returns
returns c =
    let most = c.args.most in
    let old = c.args.faults.now.items in
    ap (take most) (c.in_ok-extend_from_slice.ensures.items ∙ ap (λ l. old ++ l) (c.make_contiguous.ensures.value ∙ c.in_ok-list.ensures)) ∙ behind_taken most old (all_doubled_from 1 c.args.faces.now)
