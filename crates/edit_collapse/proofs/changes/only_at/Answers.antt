use Rattle.std.proofs.Common.{◌≤◌, ◌++◌, ℕ, List, length, sym, ap, subst, ◌∙◌}
use Rattle.grid_base.specs.declared.TheConstants.{FACES_MAX}
use Rattle.mesh_base.specs.declared.ids.Corners.{Corners}
use Rattle.edit_collapse.proofs.Lists.{ended, nothing_more}
use Rattle.edit_collapse.proofs.Picked.{picked, picked_on, picked_all, few_at}
use Rattle.edit_collapse.proofs.changes.only_at.Goals as goal

pub loop-f-preserved : goal.loop-f-preserved
loop-f-preserved g c =
    picked_on (g.S.Surface.mesh c.args.mesh.now) c.args.other c.deref-f-items.result.now c.loop-f.f-index c.f-item.result c.loop-f.faces c.put_apart.new.faces c.loop-f-test.true c.f-item.is c.in_ok-put_apart.ensures
    ∙ c.loop-f.invariant

pub returns-clause-faces : goal.returns-clause-faces
returns-clause-faces g c =
    let m = g.S.Surface.mesh c.args.mesh.now in
    sym (nothing_more c.loop-f.faces)
    ∙ ap (λ xs. c.loop-f.faces ++ picked m c.args.other xs) (sym (ended c.deref-f-items.result.now c.loop-f.f-index c.loop-f-test.false))
    ∙ c.loop-f.invariant
    ∙ ap (picked m c.args.other) (c.deref-f-items.ensures.value ∙ c.in_ok-faces_at.ensures.ok)
    ∙ picked_all m c.args.v c.args.other

pub returns-clause-few : goal.returns-clause-few
returns-clause-few g c =
    subst (λ (xs : List (ℕ × Corners)). length xs ≤ FACES_MAX) (sym (returns-clause-faces g c)) (few_at (g.S.Surface.mesh c.args.mesh.now) c.args.v c.args.other (g.met.S.Surface.sound c.args.mesh.now))
