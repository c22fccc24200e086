use Rattle.std.proofs.Common.{length, slice_get, ap, ◌∙◌}
use Rattle.mesh_shape.proofs.Heads.{first_of_one}
use Rattle.mesh_shape.proofs.good_shape.fault_of.Goals as goal

pub returns : goal.returns
returns c =
    c.copied.ensures
    ∙ c.first.ensures.value
    ∙ ap (λ l. slice_get l 0) c.deref.ensures.value
    ∙ first_of_one c.args.scale (length c.args.lists.now.points) c.args.lists.now.faces c.in_ok-found.found.items c.in_ok-found.ensures.found
